use Rattle.std.proofs.Common.{◌∙◌, ap₂}
use Rattle.strata.specs.Mounts.{status_on_device}
use Rattle.strata.proofs.Mounts.{has_ended_there, has_stopped_there}
use Rattle.strata.proofs.host.Host.command_on_device.Goals as goal

pub returns-in-Ok : goal.returns-in-Ok
returns-in-Ok g c = λ words is. has_ended_there g.row.A.Denot _ _ _ _ (c.in-Ok.ensures.over words is)

pub returns-in-Err : goal.returns-in-Err
returns-in-Err g c = λ words is.
    has_stopped_there g.row.A.Denot _ _ _ _ c.in-Err.fault (c.in-Err.ensures.stopped words is)
    (c.end_on_device.ensures ∙ ap₂ (status_on_device c.in-Err.fault) c.is_gone.ensures.gone c.is_gone-in-Err.ensures.gone)
