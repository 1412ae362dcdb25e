use Rattle.std.proofs.Common.{length}
use Rattle.serve_device.proofs.readers.+end_of_all.Given as goal

-- the seats that are left
abbrev pub decreases-end_of_all : goal.decreases-end_of_all
decreases-end_of_all g l = length l.seats.now
