use Rattle.romfs_rules.proofs.Descent.{Descends, left}
use Rattle.romfs_rules.proofs.depth.Descent.find_deep.Given as goal

-- the walk down has these headers to come, these marks, and found this
abbrev pub invariant-loop-next : goal.invariant-loop-next
invariant-loop-next g l = Descends l.volume.bytes.now l.self.todo.items l.self.marks l.deep

-- what the walk has left
abbrev pub decreases-loop-next : goal.decreases-loop-next
decreases-loop-next g l = left l.self.todo.items l.self.marks
