use Rattle.std.proofs.Common.{◌∙◌, ap, subst}
use Rattle.serve_device.specs.MountEnds.{ends}
use Rattle.strata.specs.Faults.{status_of}
use Rattle.strata.specs.Mounts.{IsRunOnDevice}
use Rattle.strata.proofs.Mounts.{new_ends}
use Rattle.strata.proofs.host.Host.mount.Goals as goal

pub returns-in-Ok : goal.returns-in-Ok
returns-in-Ok g c = λ words is.
    let left = g.I.Read.remaining c.args.reader in
    let new = new_ends g.I.Read.remaining c.in-Ok.input c.new-output.result left c.in-Ok.ensures.state c.in-Ok.ensures.there
    c.new-output.ensures.state c.new-output.ensures.there in
    let after = ends g.I.Read.remaining c.command_on_device-status.new.input c.command_on_device-status.new.output in
    subst (λ m. IsRunOnDevice g.row.A.Denot words c.command_on_device-status.result m after) new
    (c.command_on_device-status.ensures words is)

pub returns-in-Err : goal.returns-in-Err
returns-in-Err g c = λ words is. c.end.ensures.status ∙ ap status_of c.from.ensures
