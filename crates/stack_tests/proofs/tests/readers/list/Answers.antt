use Rattle.std.proofs.lemmas.List.Elements.{All-head, All-rest}
use Rattle.romfs_reader.specs.Readers.{IsGiven}
use Rattle.stack_tests.proofs.tests.readers.list.Goals as goal

pub loop-head-init : goal.loop-head-init
loop-head-init g c = rw c.into_iter-head-iterator.ensures.into_iter_gives c.members-head-items.ensures.given

pub target-end-requires : goal.target-end-requires
target-end-requires g c =
    All-head (λ head. IsGiven c.args.image.now.bytes head) c.in-Some.head c.next.new.self
    (rw c.in-Some.ensures.steps at c.loop-head.invariant)

pub loop-head-preserved : goal.loop-head-preserved
loop-head-preserved g c =
    All-rest (λ head. IsGiven c.args.image.now.bytes head) c.in-Some.head c.next.new.self c.loop-head.head-iterator c.in-Some.ensures.steps
    c.loop-head.invariant
