use Rattle.std.proofs.Common.{◌*◌, ◌+◌}
use Rattle.romfs_files.proofs.images.+halves.Given as goal

-- how often its run may still be cut, times two: there is a thread between two calls
abbrev pub decreases-load_from : goal.decreases-load_from
decreases-load_from g l = 2 * l.forks

-- how often the upper half's thread may cut its run
abbrev pub decreases-join+arg2 : goal.decreases-join+arg2
decreases-join+arg2 g l = 2 * l.less + 1

-- and how often the lower half's, in the caller's
abbrev pub decreases-join+arg3 : goal.decreases-join+arg3
decreases-join+arg3 g l = 2 * l.less + 1
