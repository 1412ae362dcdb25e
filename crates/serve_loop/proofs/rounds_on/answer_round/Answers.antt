use Rattle.std.proofs.Common.{arith, rules, ◌+◌, ◌∙◌, sym, ap, subst, [], ◌<◌, ◌^◌, length, refl}
use Rattle.std.proofs.KnownBytes.{Appends-nil}
use Rattle.std.proofs.lemmas.List.{with_items_is}
use Rattle.std.proofs.lemmas.Result.{IfOk-from_err}
use Rattle.std.specs.Io.KnownBytes.{Appends}
use Rattle.std.specs.Vec.{with_items}
use Rattle.devices.specs.Pushing.{HasFlushed}
use Rattle.serve_loop.specs.Buffers.{held_in}
use Rattle.serve_loop.specs.Rounds.{IsRound}
use Rattle.serve_loop.specs.Steps.{serving_state}
use Rattle.serve_loop.proofs.Rounding.{all_of, from_memory, round_few, flushed_none, goes_idle, goes_round, halts_now, at_rest, round_of, shorter, small_on, some_messages}
use Rattle.serve_loop.proofs.Walking.{first_within}
use Rattle.serve_loop.proofs.rounds_on.answer_round.Given.{Over}
use Rattle.serve_loop.proofs.rounds_on.answer_round.Goals.{In_ok-round}
use Rattle.serve_loop.proofs.rounds_on.answer_round.Goals as goal

-- the round that was answered, as one of the state before it
seen : (g : Over) (c : In_ok-round g) → IsRound (g.T.AnswersRounds.answering c.args.answers.now) (serving_state c.args.progress.now).session
    (serving_state c.args.progress.now).rest c.in_ok-round.round c.in_ok-round.ensures.0
    (record { old = c.args.progress.now.balances.items; new = (with_items c.args.progress.now.balances c.answer_round.new.balances).items })
seen g c =
    let r = c.in_ok-round.ensures.2 in
    let kept = with_items_is c.args.progress.now.balances c.answer_round.new.balances (r.answered.moves.same
    ∙ c.as_mut_slice.ensures.len) in
    round_of _ _ c.in_ok-round.round _ _ _ _ _ _ _ c.rest.ensures c.as_mut_slice.ensures.value (sym kept) r

pub returns-in_err-round-clause-err : goal.returns-in_err-round-clause-err
returns-in_err-round-clause-err g c =
    from_memory c.from_residual.result _ c.from_residual.ensures.1 (
      [],
      Appends-nil _,
      halts_now (g.T.AnswersRounds.answering c.args.answers.now) (serving_state c.args.progress.now) _,
    )

pub returns-then-round-eq0-clause-ok : goal.returns-then-round-eq0-clause-ok
returns-then-round-eq0-clause-ok g c =
    let by = g.T.AnswersRounds.answering c.args.answers.now in
    let from = serving_state c.args.progress.now in
    let round = c.in_ok-round.round in
    let r = seen g (goal.at.returns-then-round-eq0-clause-ok g c).In_ok-round in (
      record {
        messages = [];
        put = [];
        goes = goes_idle by from round _ _ r c.if-round-eq0.true;
        held = Appends-nil _;
        flushed = flushed_none _;
      },
      at_rest by from round _ _ r c.if-round-eq0.true,
    )

pub overflow_add-progress-2 : goal.overflow_add-progress-2
overflow_add-progress-2 g c =
    let few = round_few _ _ _ _ _ _ _ c.in_ok-round.ensures.2 in
    let rest = ap length c.rest.ensures in
    let count = c.requires.in_order.small.count in
    let place = c.requires.in_order.small.place in
    search (rules, few, rest, count, place)

pub returns : goal.returns
returns g c =
    let by = g.T.AnswersRounds.answering c.args.answers.now in
    let from = serving_state c.args.progress.now in
    let round = c.in_ok-round.round in
    let put = c.in_ok-round.ensures.0 in
    let r = seen g (goal.at.returns g c).In_ok-round in
    let is = all_of _ _ put c.clear.ensures.items c.in_ok-round.ensures.1 in
    let all = c.as_slice.ensures ∙ is in
    let size = c.len.ensures.len ∙ ap length is in
    let went = goes_round by from round put (held_in c.pass.new.self) _ _ _ _ r c.pass.ensures.rest refl refl
    (ap (λ n. from.written + n) size) in
    let (sent, front, on) = c.in-Ok.ensures in
    let same = on.0 ∙ all in
    let after = (g.K.Sink.state c.hand_on.new.sink).held in
    let counts = (g.K.Sink.state c.hand_on.new.sink).counts in
    record {
      in_order = record {
        range = c.pass.ensures.range;
        small = small_on by _ from _ r.messages put c.requires.in_order.small went (subst (λ n. n < 2 ^ 64) size c.len.type_inv);
      };
      ok = (
        record {
          messages = r.messages;
          put = put;
          goes = went;
          held = subst (λ v. Appends (g.K.Sink.state c.args.sink.now).held after v) same front.held;
          flushed = subst (λ v. HasFlushed v (g.K.Sink.state c.args.sink.now).counts counts) same on.1;
        },
        shorter by from _ r.messages put went (some_messages by _ round _ _ _ _ r c.if-round-eq0.false),
      );
      err = tt;
    }

pub answer_round-requires-clause-ready : goal.answer_round-requires-clause-ready
answer_round-requires-clause-ready g c = c.requires.ready

pub answer_round-requires-clause-short : goal.answer_round-requires-clause-short
answer_round-requires-clause-short g c =
    let rest = ap length c.rest.ensures in
    let place = c.requires.in_order.small.place in
    omega arith

pub returns-in_err-round-clause-ok : goal.returns-in_err-round-clause-ok
returns-in_err-round-clause-ok g c = IfOk-from_err c.from_residual.result _ c.from_residual.ensures.0

pub returns-then-round-eq0-clause-in_order : goal.returns-then-round-eq0-clause-in_order
returns-then-round-eq0-clause-in_order g c =
    let by = g.T.AnswersRounds.answering c.args.answers.now in
    let from = serving_state c.args.progress.now in
    let round = c.in_ok-round.round in
    let r = seen g (goal.at.returns-then-round-eq0-clause-in_order g c).In_ok-round in
    record {
      range = c.requires.in_order.range;
      small = small_on by _ from _ [] [] c.requires.in_order.small (goes_idle by from round _ _ r c.if-round-eq0.true) (omega arith);
    }

pub returns-then-round-eq0-clause-err : goal.returns-then-round-eq0-clause-err
returns-then-round-eq0-clause-err g c = tt

pub hand_on-requires : goal.hand_on-requires
hand_on-requires g c = c.requires.counts

pub returns-in_default-clause-in_order : goal.returns-in_default-clause-in_order
returns-in_default-clause-in_order g c = tt

pub returns-in_default-clause-ok : goal.returns-in_default-clause-ok
returns-in_default-clause-ok g c = tt

pub pass-requires-clause-range : goal.pass-requires-clause-range
pass-requires-clause-range g c = c.requires.in_order.range

pub pass-requires-clause-used : goal.pass-requires-clause-used
pass-requires-clause-used g c =
    let r = seen g (goal.at.pass-requires-clause-used g c).In_ok-round in
    first_within _ r.messages c.in_ok-round.round.used r.first

pub overflow_add-progress : goal.overflow_add-progress
overflow_add-progress g c =
    let r = seen g (goal.at.overflow_add-progress g c).In_ok-round in
    let used = first_within (held_in c.args.progress.now.buffer) r.messages c.in_ok-round.round.used r.first in
    let place = c.requires.in_order.small.place in
    omega arith

pub overflow_cast-progress : goal.overflow_cast-progress
overflow_cast-progress g c = let len = c.len.type_inv in omega arith

pub overflow_add-progress-3 : goal.overflow_add-progress-3
overflow_add-progress-3 g c =
    let len = c.len.type_inv in
    let place = c.requires.in_order.small.place in
    let bytes = c.requires.in_order.small.bytes in
    omega arith
