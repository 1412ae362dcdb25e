use Rattle.romfs_sets.proofs.Siblings.{AreListed}
use Rattle.romfs_sets.proofs.graph.lists.Given as goal

-- the points from `at` on are on their lists
abbrev pub invariant-loop-at : goal.invariant-loop-at
invariant-loop-at g l = AreListed l.next l.first.items l.sibling.items l.at
