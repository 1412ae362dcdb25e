use Rattle.romfs_rules.proofs.PlainWalk.{Descends, left}
use Rattle.romfs_rules.proofs.plain.is_plain_image.Given as goal

-- the walk has these directories to come, and these marks
abbrev pub invariant-loop-folder : goal.invariant-loop-folder
invariant-loop-folder g l = Descends l.volume.bytes.now l.walk.todo l.walk.marks

-- what the walk has left
abbrev pub decreases-loop-folder : goal.decreases-loop-folder
decreases-loop-folder g l = left l.walk.todo l.walk.marks
