use Rattle.romfs_rules.proofs.HeadNumbers.{AreNextSoFar}
use Rattle.romfs_rules.proofs.same_names.next_numbers.Given as goal

-- the headers before this one have their next numbers
abbrev pub invariant-loop-at : goal.invariant-loop-at
invariant-loop-at g l = AreNextSoFar l.volume.bytes.now l.heads l.next.items l.at-index
