use Rattle.std.proofs.Common.{◌*◌, ◌+◌}
use Rattle.worker_tests.proofs.tests.drawing.+crowd.Given as goal

-- its threads, twice over: there is a scope between two calls
abbrev pub decreases-draw_in : goal.decreases-draw_in
decreases-draw_in g l = 2 * l.threads

-- the threads that the scope leaves to the next call
abbrev pub decreases-scope : goal.decreases-scope
decreases-scope g l = 2 * l.rest + 1
