use Rattle.romfs_rules.proofs.Closure.{Walked, left}
use Rattle.romfs_rules.proofs.chains.ChainWalk.finish.Given as goal

-- the walk over the other chains has these words to come, and these marks
abbrev pub invariant-loop-word : goal.invariant-loop-word
invariant-loop-word g l = Walked l.volume.bytes.now l.self.todo.items l.self.marks

-- what the walk has left
abbrev pub decreases-loop-word : goal.decreases-loop-word
decreases-loop-word g l = left l.self.todo.items l.self.marks
