use Rattle.strata.proofs.Served.{in_time, lost, stopped, whole}
use Rattle.strata.proofs.serving.serve_streams.Goals as goal

pub returns-clause-done : goal.returns-clause-done
returns-clause-done g c = λ images prepared.
    in_time g.row.A.Denot c.args.line.now images _ _ c.tell_balances.result
    (whole g.row.A.Denot c.args.line.now images _ _ _ prepared c.serve_stream.result c.in_ok-done.done c.serve_stream.ensures
    c.in_ok-done.was)

pub returns-clause-stopped : goal.returns-clause-stopped
returns-clause-stopped g c = λ images prepared.
    lost g.row.A.Denot c.args.line.now images _ _ c.args.streams.balances c.tell_balances.result
    (whole g.row.A.Denot c.args.line.now images _ _ _ prepared c.serve_stream.result c.in_ok-done.done c.serve_stream.ensures
    c.in_ok-done.was) c.requires.named.2 c.tell_balances.ensures

pub returns-in_err-done-clause-stopped : goal.returns-in_err-done-clause-stopped
returns-in_err-done-clause-stopped g c = λ images prepared.
    stopped g.row.A.Denot c.args.line.now images _ _ _ prepared c.serve_stream.result c.in_err-done.field-0.0
    c.from_residual.result c.serve_stream.ensures c.in_err-done.was c.from_residual.ensures.1
