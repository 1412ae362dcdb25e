use Rattle.std.proofs.Common.{◌∙◌, ap, subst}
use Rattle.devices.specs.States.{devices, source_state, sink_state}
use Rattle.strata_words.specs.declared.options.NoLine.TheVariants as none
use Rattle.strata.specs.Ending.{TellsVersion}
use Rattle.strata.specs.Ends.{given, streams, unused}
use Rattle.strata.specs.Faults.{status_of}
use Rattle.strata.proofs.Mounts.{ran_by, ran_without}
use Rattle.strata.proofs.host.Host.command_as_read.Goals as goal

pub returns-in-Ok : goal.returns-in-Ok
returns-in-Ok g c = λ words is. ran_by g.row.A.Denot words c.args.read c.in-Ok.line _ _ _ c.in-Ok.is c.command_of_line.ensures is

pub returns-in-Err-Version : goal.returns-in-Err-Version
returns-in-Err-Version g c = λ words is.
    let output = c.tell_version-status.new.output in
    let new = sink_state (g.O.Write.contents output.writer) output.counts in
    let input = source_state (g.I.Read.remaining c.new.result.reader) c.new.result.counts in
    ran_without g.row.A.Denot words c.args.read c.in-Err-Version.field-0 none.Version
    (given (g.I.Read.remaining c.args.reader) (g.O.Write.contents c.args.writer)) c.tell_version-status.result
    (streams (devices input new)) c.in-Err-Version.is c.in-Err-Version.field-0-is
    (c.new.ensures, subst (λ old. TellsVersion c.tell_version-status.result old new) c.new-output.ensures c.tell_version-status.ensures) is

pub returns-in-Err-Fault : goal.returns-in-Err-Fault
returns-in-Err-Fault g c = λ words is.
    ran_without g.row.A.Denot words c.args.read c.in-Err-Fault.field-0 (none.Fault c.in-Err-Fault.fault)
    (given (g.I.Read.remaining c.args.reader) (g.O.Write.contents c.args.writer)) c.end.result unused c.in-Err-Fault.is
    c.in-Err-Fault.field-0-is (c.end.ensures.status ∙ ap status_of c.from.ensures) is
