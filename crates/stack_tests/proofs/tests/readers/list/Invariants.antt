use Rattle.std.proofs.Common.{All}
use Rattle.romfs_reader.specs.Readers.{IsGiven}
use Rattle.stack_tests.proofs.tests.readers.list.Given as goal

-- the members to come are given by the image
abbrev pub invariant-loop-head : goal.invariant-loop-head
invariant-loop-head g l = All (λ head. IsGiven l.image.bytes head) l.head-iterator
