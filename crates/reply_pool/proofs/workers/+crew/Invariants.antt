use Rattle.std.proofs.Common.{◌*◌, ◌+◌}
use Rattle.reply_pool.proofs.workers.+crew.Given as goal

-- its workers, twice over: there is a thread between two calls
abbrev pub decreases-draw_all : goal.decreases-draw_all
decreases-draw_all g l = 2 * l.workers

-- the workers of the lower half's thread
abbrev pub decreases-join+arg2 : goal.decreases-join+arg2
decreases-join+arg2 g l = 2 * l.low + 1

-- and of the upper half's
abbrev pub decreases-join+arg3 : goal.decreases-join+arg3
decreases-join+arg3 g l = 2 * l.high + 1
