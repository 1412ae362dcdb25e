use Rattle.std.proofs.Common.{refl}
use Rattle.std.proofs.lemmas.Bool.{false≢true}
use Rattle.romfs_rules.proofs.Links.{next_named, no_next}
use Rattle.romfs_rules.proofs.link.next_link.Goals as goal

pub returns-then-is_in_chain : goal.returns-then-is_in_chain
returns-then-is_in_chain g c = next_named c.args.volume.now.bytes.now c.args.at c.next_of.result (c.if-is_in_chain.ensures.0 refl)
    c.next_of.ensures

pub returns-else-is_in_chain : goal.returns-else-is_in_chain
returns-else-is_in_chain g c = no_next c.args.volume.now.bytes.now c.args.at (λ x. false≢true (c.if-is_in_chain.ensures.1 x))
