use Rattle.std.proofs.Common.{◌∙◌, [], ◌∷◌, ap, append-nil, arith, inl, inr, length, length-append, refl, subst}
use Rattle.std.proofs.lemmas.List.{take_rest}
use Rattle.std.proofs.lemmas.Result.{IfOk-from_err}
use Rattle.fuse_wire.specs.Requests.{Asked}
use Rattle.fuse_wire.specs.Stream.{IsRest}
use Rattle.reply_model.specs.Sessions.{session_after}
use Rattle.serve_loop.proofs.Walking.{first_within, one_first}
use Rattle.reply_rounds.specs.Jobs.{Job}
use Rattle.reply_rounds.proofs.Spreading.{none_taken, one_taken}
use Rattle.reply_pool.proofs.spread.take_jobs.Goals as goal
use Rattle.reply_pool.proofs.spread.take_jobs.Goals.{else-loop-round-test, then-loop-round-test+in-Bad, then-loop-round-test+in-More}

pub loop-round-init : goal.loop-round-init
loop-round-init g c = record {
  first = none_taken c.args.session c.args.stream.now c.in_ok-jobs.jobs.items c.in_ok-jobs.ensures.items;
  many = ap length c.in_ok-jobs.ensures.items;
  few = omega arith;
}

pub loop-round-preserved : goal.loop-round-preserved
loop-round-preserved g c =
    let round = c.loop-round.round in
    let asks = c.read-request.ensures in
    let job : Job = (round.session, c.read-request.result) in
    let more = c.in_ok-push-in-Whole.ensures.items in
    let l = ap length more ∙ length-append c.loop-round.jobs.items (job ∷ []) in
    let m = c.loop-round.invariant.many in
    let there = c.loop-round-test.true in
    record {
      first = one_taken c.args.session c.args.stream.now round c.loop-round.jobs.items c.push.new.self.items _ c.in-Whole.len
          c.after-round.result job
          c.loop-round.invariant.first (take_rest c.args.stream.now round.used) c.in-Whole.ensures refl asks
          (c.after-round.ensures ∙ ap (λ (q : Asked). session_after round.session q.op) asks) more;
      many = omega arith;
      few = omega arith;
    }

pub returns-clause-some : goal.returns-clause-some
returns-clause-some g c =
    let at = take_rest c.args.stream.now c.loop-round.round.used in
    elim c.loop-round-test.branch [
      | else-loop-round-test w ↦ inl (let h = w.loop-round-test.false in let s = c.requires.some in omega arith)
      | then-loop-round-test+in-More w ↦ inr (subst IsRest at (inl w.in-More.ensures))
      | then-loop-round-test+in-Bad w ↦ inr (subst IsRest at (inr (_, w.in-Bad.ensures)))
    ]

pub overflow_add-round-in-Whole : goal.overflow_add-round-in-Whole
overflow_add-round-in-Whole g c = omega arith

pub loop-round-smaller : goal.loop-round-smaller
loop-round-smaller g c = omega arith

pub returns-clause-jobs : goal.returns-clause-jobs
returns-clause-jobs g c = c.loop-round.invariant.first

pub returns-clause-few : goal.returns-clause-few
returns-clause-few g c = omega arith

pub slice_bounds-rest-count : goal.slice_bounds-rest-count
slice_bounds-rest-count g c =
    let first = c.loop-round.invariant.first in
    let used = first_within c.args.stream.now first.messages c.loop-round.round.used first.first in
    omega arith

pub slice_bounds-rest-start : goal.slice_bounds-rest-start
slice_bounds-rest-start g c =
    let first = c.loop-round.invariant.first in
    let used = first_within c.args.stream.now first.messages c.loop-round.round.used first.first in
    omega arith

pub slice_bounds-rest-end : goal.slice_bounds-rest-end
slice_bounds-rest-end g c =
    let first = c.loop-round.invariant.first in
    let used = first_within c.args.stream.now first.messages c.loop-round.round.used first.first in
    omega arith

pub slice_bounds-read-end : goal.slice_bounds-read-end
slice_bounds-read-end g c = (one_first _ c.in-Whole.len c.in-Whole.ensures).size ∙ ap length (append-nil _)

pub read-request-requires : goal.read-request-requires
read-request-requires g c = (one_first _ c.in-Whole.len c.in-Whole.ensures).each.0.good

pub overflow_add-round : goal.overflow_add-round
overflow_add-round g c =
    let first = c.loop-round.invariant.first in
    let used = first_within c.args.stream.now first.messages c.loop-round.round.used first.first in
    let good = c.in-Whole.ensures.whole.good in
    let sized = c.in-Whole.ensures.sized in
    let short = c.requires.short in
    omega arith

pub returns-in_err-jobs-clause-jobs : goal.returns-in_err-jobs-clause-jobs
returns-in_err-jobs-clause-jobs g c = IfOk-from_err c.from_residual.result _ c.from_residual.ensures.0

pub returns-in_err-jobs-clause-few : goal.returns-in_err-jobs-clause-few
returns-in_err-jobs-clause-few g c = IfOk-from_err c.from_residual.result _ c.from_residual.ensures.0

pub returns-in_err-jobs-clause-some : goal.returns-in_err-jobs-clause-some
returns-in_err-jobs-clause-some g c = IfOk-from_err c.from_residual.result _ c.from_residual.ensures.0

pub returns-in_err-push-in-Whole-clause-jobs : goal.returns-in_err-push-in-Whole-clause-jobs
returns-in_err-push-in-Whole-clause-jobs g c =
    IfOk-from_err c.from_residual-in_err-push-in-Whole.result _ c.from_residual-in_err-push-in-Whole.ensures.0

pub returns-in_err-push-in-Whole-clause-few : goal.returns-in_err-push-in-Whole-clause-few
returns-in_err-push-in-Whole-clause-few g c =
    IfOk-from_err c.from_residual-in_err-push-in-Whole.result _ c.from_residual-in_err-push-in-Whole.ensures.0

pub returns-in_err-push-in-Whole-clause-some : goal.returns-in_err-push-in-Whole-clause-some
returns-in_err-push-in-Whole-clause-some g c =
    IfOk-from_err c.from_residual-in_err-push-in-Whole.result _ c.from_residual-in_err-push-in-Whole.ensures.0
