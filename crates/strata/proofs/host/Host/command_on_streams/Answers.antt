use Rattle.strata.proofs.Statuses.{has_ended, has_stopped}
use Rattle.strata.proofs.host.Host.command_on_streams.Goals as goal

pub returns-in-Ok : goal.returns-in-Ok
returns-in-Ok g c = λ words is. has_ended g.row.A.Denot _ _ _ _ (c.in-Ok.ensures.over words is)

pub returns-in-Err : goal.returns-in-Err
returns-in-Err g c = λ words is. has_stopped g.row.A.Denot _ _ c.in-Err.fault _ _ (c.in-Err.ensures.stopped words is) c.end.ensures.status
