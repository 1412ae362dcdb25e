use Rattle.std.proofs.Common.{◌<◌, ◌++◌, append-nil, ap, arith, inl, length, length-append, sym, []}
use Rattle.std.proofs.lemmas.List.{take_rest}
use Rattle.std.proofs.lemmas.Result.{IfOk-from_err}
use Rattle.serve_loop.proofs.Walking.{appended, as_long, first_within, full_round, is_round, last_round, nothing_so_far, one_first, one_more, so_far_within}
use Rattle.serve_loop.proofs.one_thread.walk.Goals as goal

pub loop-round-init : goal.loop-round-init
loop-round-init g c = (
  [],
  sym (append-nil c.args.replies.now.items),
  nothing_so_far (g.T.AnswersOne.answering c.args.answers.now)
      c.args.session c.args.stream.now c.args.balances.now,
)

pub answer-requires-clause-within : goal.answer-requires-clause-within
answer-requires-clause-within g c =
    let (put, e, f) = c.loop-round.invariant in
    so_far_within (g.T.AnswersOne.answering c.args.answers.now) c.args.session c.args.stream.now
    c.loop-round.round put c.args.balances.now c.loop-round.balances f c.requires.within c.requires.short

pub loop-round-preserved : goal.loop-round-preserved
loop-round-preserved g c =
    let (put, e, f) = c.loop-round.invariant in
    let (more, k, x) = c.in_ok-round-in-Whole.ensures in
    let stream = c.args.stream.now in (
      put ++ more,
      appended c.args.replies.now.items put more c.loop-round.replies.items c.answer.new.replies.items k e,
      one_more (g.T.AnswersOne.answering c.args.answers.now) c.args.session stream c.loop-round.round put more
          c.args.balances.now c.loop-round.balances c.answer.new.balances _ c.in-Whole.len
          c.in_ok-round-in-Whole.field-0 f (take_rest stream c.loop-round.round.used) c.in-Whole.ensures x,
    )

pub overflow_sub-len : goal.overflow_sub-len
overflow_sub-len g c =
    let (put, e, f) = c.loop-round.invariant in
    let l = ap length e in
    let a = length-append c.args.replies.now.items put in
    omega arith

pub slice_bounds-rest-count : goal.slice_bounds-rest-count
slice_bounds-rest-count g c =
    let (put, e, f) = c.loop-round.invariant in
    let used = first_within c.args.stream.now f.messages c.loop-round.round.used f.first in
    omega arith

pub slice_bounds-rest-start : goal.slice_bounds-rest-start
slice_bounds-rest-start g c =
    let (put, e, f) = c.loop-round.invariant in
    let used = first_within c.args.stream.now f.messages c.loop-round.round.used f.first in
    omega arith

pub slice_bounds-rest-end : goal.slice_bounds-rest-end
slice_bounds-rest-end g c =
    let (put, e, f) = c.loop-round.invariant in
    let used = first_within c.args.stream.now f.messages c.loop-round.round.used f.first in
    omega arith

pub overflow_cast-round : goal.overflow_cast-round
overflow_cast-round g c = omega arith

pub slice_bounds-answer-end : goal.slice_bounds-answer-end
slice_bounds-answer-end g c = as_long _ c.in-Whole.len c.in-Whole.ensures

pub answer-requires-clause-message : goal.answer-requires-clause-message
answer-requires-clause-message g c = (one_first _ c.in-Whole.len c.in-Whole.ensures).each.0

pub overflow_add-round : goal.overflow_add-round
overflow_add-round g c =
    let (put, e, f) = c.loop-round.invariant in
    let used = first_within c.args.stream.now f.messages c.loop-round.round.used f.first in
    let good = c.in-Whole.ensures.whole.good in
    let sized = c.in-Whole.ensures.sized in
    let short = c.requires.short in
    omega arith

pub overflow_add-round-in-Whole : goal.overflow_add-round-in-Whole
overflow_add-round-in-Whole g c = omega arith

pub loop-round-smaller : goal.loop-round-smaller
loop-round-smaller g c = omega arith

pub returns-in_err-round-in-Whole : goal.returns-in_err-round-in-Whole
returns-in_err-round-in-Whole g c = IfOk-from_err c.from_residual.result _ c.from_residual.ensures.0

pub returns-after-loop-round : goal.returns-after-loop-round
returns-after-loop-round g c =
    let (put, e, f) = c.loop-round.invariant in
    (put, e, is_round _ _ _ c.loop-round.round put _ f (inl (omega (arith, c.loop-round-test.false))))

pub returns-else-len-begun-lt-ENOUGH_REPLIES : goal.returns-else-len-begun-lt-ENOUGH_REPLIES
returns-else-len-begun-lt-ENOUGH_REPLIES g c =
    let (put, e, f) = c.loop-round.invariant in
    let l = ap length e in
    let a = length-append c.args.replies.now.items put in
    let some : 0 < length put = omega (arith, c.len.ensures.len, c.len-begun.ensures.len) in
    (put, e, full_round _ _ _ c.loop-round.round put _ f some)

pub returns-in-More : goal.returns-in-More
returns-in-More g c =
    let (put, e, f) = c.loop-round.invariant in
    let left = take_rest c.args.stream.now c.loop-round.round.used in
    (put, e, last_round _ _ _ c.loop-round.round put _ _ c.frame.result f left c.frame.ensures c.in-More.is)
