use Rattle.std.proofs.Common.{◌++◌, take}
use Rattle.strata_images.proofs.Told.{goes_on}
use Rattle.strata_images.proofs.lines.write_bytes.Goals as goal

pub loop-rest-preserved : goal.loop-rest-preserved
loop-rest-preserved g c =
    let (done, u) = c.loop-rest.invariant in
    let rest = c.loop-rest.rest.now in
    let n = c.in_ok-n.n in
    (done ++ take n rest, goes_on _ rest done _ _ _ n u c.in_ok-n.ensures.bytes)
