use Rattle.romfs_rows.proofs.Rising.{AreSoFar}
use Rattle.romfs_rows.proofs.check.are_rows.Given as goal

-- the rows so far are right, and the next may have no offset below this
abbrev pub invariant-loop-number : goal.invariant-loop-number
invariant-loop-number l = AreSoFar l.full l.trailer l.number l.least
