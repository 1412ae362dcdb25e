use Rattle.std.proofs.Common.{◌+◌, ◌-◌, length}
use Rattle.fuse_answer.proofs.Fitting.{Goes}
use Rattle.fuse_answer.proofs.listing.fit.Given as goal

-- the rows before `until` are passed, and this room is left
abbrev pub invariant-loop-until : goal.invariant-loop-until
invariant-loop-until g l = Goes l.rows.with_entries l.rows.children.now l.rows.from l.rows.room l.until l.room

-- how many rows are left
abbrev pub decreases-loop-until : goal.decreases-loop-until
decreases-loop-until g l = 2 + length l.rows.children.now - l.until
