use Rattle.std.proofs.Common.{◌++◌, take}
use Rattle.devices.proofs.Pieces.{goes_on}
use Rattle.devices.proofs.push.push_all.Goals as goal

pub loop-rest-preserved : goal.loop-rest-preserved
loop-rest-preserved g c =
    let (done, u) = c.loop-rest.invariant in
    let rest = c.loop-rest.rest.now in
    let n = c.in-Ok.n in
    (done ++ take n rest, goes_on _ rest done _ _ _ n u c.in-Ok.ensures.bound c.in-Ok.n-test.1 c.in-Ok.ensures.bytes c.in-Ok.ensures.counts)
