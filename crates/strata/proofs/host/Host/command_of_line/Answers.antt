use Rattle.std.proofs.Common.{◌∙◌, sym, subst, ap₂, arith, true≢false}
use Rattle.devices.specs.States.{devices, source_state, sink_state}
use Rattle.strata.specs.Ending.{IsRunOf}
use Rattle.strata.proofs.host.Host.command_of_line.Goals as goal

pub returns-then-line-eq1 : goal.returns-then-line-eq1
returns-then-line-eq1 g c = λ words is. record {
  device = λ e one. c.mount.ensures words is;
  readers = λ e more. absurd (omega (arith, more, c.if-line-eq1.true));
  streams = λ e. absurd (true≢false (sym c.if-line.true ∙ e));
}

pub returns-then-line : goal.returns-then-line
returns-then-line g c = λ words is. record {
  device = λ e one. absurd (omega (arith, one, c.if-line-eq1.false, c.requires.limits.readers));
  readers = λ e more. c.mount_by_readers.ensures;
  streams = λ e. absurd (true≢false (sym c.if-line.true ∙ e));
}

pub returns : goal.returns
returns g c = λ words is.
    let input = c.command_on_streams-status.new.input in
    let output = c.command_on_streams-status.new.output in
    let new = devices (source_state (g.I.Read.remaining input.reader) input.counts)
    (sink_state (g.O.Write.contents output.writer) output.counts) in
    record {
      device = λ e one. absurd (true≢false (sym e ∙ c.if-line.false));
      readers = λ e more. absurd (true≢false (sym e ∙ c.if-line.false));
      streams = λ e. subst (λ d. IsRunOf g.row.A.Denot words c.command_on_streams-status.result d new)
          (ap₂ devices c.new-input.ensures c.new-output.ensures) (c.command_on_streams-status.ensures words is);
    }
