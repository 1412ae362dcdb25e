use Rattle.std.proofs.Common.{inl, inr, arith}
use Rattle.strata.proofs.InTurn.{all_served, none_so_far, none_accepted, none_come, none_comes, one_comes, one_more}
use Rattle.strata.proofs.clients.Service.sessions_from.Goals.{then-status-eq0, else-status-eq0}
use Rattle.strata.proofs.clients.Service.sessions_from.Goals as goal

pub loop-number-init : goal.loop-number-init
loop-number-init g c = (none_so_far, none_come _)

pub loop-number-preserved : goal.loop-number-preserved
loop-number-preserved g c =
    let (so_far, come) = c.loop-number.invariant in
    let below = c.loop-number-test.true in
    let range = c.ranges.count.fits in (
      one_more c.loop-number.number c.loop-number.status c.serve_session-ended.result c.if-status-eq0.status so_far
          c.serve_session-ended.ensures
          (elim c.if-status-eq0.branch [
            | then-status-eq0 w ↦ inl (w.if-status-eq0.true, w.status-is)
            | else-status-eq0 w ↦ inr
                (w.if-status-eq0.false, w.status-is)
          ]),
      one_comes c.loop-number.number c.accept.result c.in-Ok.client _ _ _ c.in-Ok.is c.accept.ensures c.requires.clients
          (omega (arith, below, range)) come,
    )

pub returns-in_default : goal.returns-in_default
returns-in_default g c =
    let (so_far, come) = c.loop-number.invariant in
    let before = g.C.Clients.counts c.args.clients.now in
    let now = g.C.Clients.counts c.loop-number.clients in
    let after = g.C.Clients.counts c.accept.new.self in
    none_accepted c.loop-number.number c.args.count c.loop-number.status c.end.result before now after so_far
    c.loop-number-test.true c.end.ensures.status come
    (none_comes c.accept.result c.in_default.field-0 before now after c.in_default.is c.accept.ensures c.requires.failures come.failures)

pub returns : goal.returns
returns g c =
    let end = c.loop-number.auto.number-end in
    let over = c.loop-number-test.false in
    all_served c.loop-number.number c.args.count _ _ _ (omega (arith, end, over)) c.loop-number.invariant.0 c.loop-number.invariant.1
