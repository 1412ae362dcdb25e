use Rattle.std.proofs.Common.{◌*◌, ◌+◌}
use Rattle.stack_prepare.proofs.checking.+halves.Given as goal

-- how often its run may still be cut, twice over: there is a thread between two calls
abbrev pub decreases-check_from : goal.decreases-check_from
decreases-check_from g l = 2 * l.forks

-- how often the upper half's thread may cut its run
abbrev pub decreases-join+arg2 : goal.decreases-join+arg2
decreases-join+arg2 g l = 2 * l.less + 1

-- and how often the lower half's, in the caller's
abbrev pub decreases-join+arg3 : goal.decreases-join+arg3
decreases-join+arg3 g l = 2 * l.less + 1
