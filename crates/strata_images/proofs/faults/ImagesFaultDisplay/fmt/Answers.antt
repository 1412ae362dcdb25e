use Rattle.strata_images.proofs.faults.ImagesFaultDisplay.fmt.Goals as goal
use Rattle.strata_images.proofs.Printed.{as_place}

pub returns-in-Broken-clause-writes : goal.returns-in-Broken-clause-writes
returns-in-Broken-clause-writes g c = rw (c.in-Broken.is, ← as_place c.in-Broken.fault.place)
    (rw (c.in_radix.ensures, c.laid_out.ensures) at c.write-in-Broken.ensures.writes)
