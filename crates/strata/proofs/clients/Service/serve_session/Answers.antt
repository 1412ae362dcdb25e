use Rattle.strata.proofs.clients.Service.serve_session.Goals as goal

pub returns : goal.returns
returns g c = (
  record { trace = _; result = c.serve_client-ended.result; is = c.serve_client-ended.ensures.4 },
  c.end_session.ensures,
)
