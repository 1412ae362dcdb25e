use Rattle.std.proofs.Common.{◌≡◌, ◌∙◌, ap, refl, subst, sym, [], arith}
use Rattle.devices.specs.States.{devices}
use Rattle.fuse_wire.specs.Stream.{IsBad, IsOpen, IsRest}
use Rattle.serve_loop.specs.Buffers.{held_in}
use Rattle.serve_loop.specs.Steps.{serving_state, IsSmall}
use Rattle.serve_loop.proofs.Traces.{small_first, start}
use Rattle.serve_loop.proofs.Openings.{IsFollowed, awaits_first, awaits_on, follows, follows_small, never_begun, over_at_end, over_at_once, over_begun, over_cut_off, over_for_bad, over_for_halt, over_for_memory, over_for_read, over_for_turns}
use Rattle.serve_loop.proofs.running.run_until.Given.{Over}
use Rattle.serve_loop.proofs.running.run_until.Goals.{In-Ok}
use Rattle.serve_loop.proofs.running.run_until.Goals as goal

pub returns-then-turns-eq0-clause-run : goal.returns-then-turns-eq0-clause-run
returns-then-turns-eq0-clause-run g c = over_at_once _ _ _ _ _ _ c.if-turns-eq0.true

pub returns-in_err-progress-clause-run : goal.returns-in_err-progress-clause-run
returns-in_err-progress-clause-run g c = never_begun _ _ _ _ _ c.from_residual.result c.from_residual.ensures.1

pub loop-turn-init : goal.loop-turn-init
loop-turn-init g c =
    let by = g.T.AnswersRounds.answering c.args.answers.now in
    let nodes = g.T.AnswersRounds.nodes c.args.answers.now in
    let p = c.in_ok-progress.ensures in
    let is = p.1 ∙ ap (λ s. start s c.nodes.result []) c.first.ensures ∙ ap (λ n. start by.first n []) c.nodes.ensures in (
      awaits_first by nodes c.args.until _ (serving_state c.in_ok-progress.progress) is,
      record { range = p.0; small = subst (λ w. IsSmall nodes w) (sym is) (small_first by.first nodes) },
    )

pub returns-in_err-make_room-clause-run : goal.returns-in_err-make_room-clause-run
returns-in_err-make_room-clause-run g c =
    over_for_memory _ _ _ _ c.loop-turn._turn c.args.turns _ _ c.loop-turn.invariant.0
    (omega (arith, c.loop-turn-test.true)) c.from_residual-in_err-make_room.result c.from_residual-in_err-make_room.ensures.1

pub returns-in-Err-clause-run : goal.returns-in-Err-clause-run
returns-in-Err-clause-run g c =
    over_for_read _ _ _ _ _ _ _ _ c.loop-turn.invariant.0 _ _ _ c.requires.devices c.loop-turn-test.true c.in_ok-make_room.ensures.rest _ _
    c.in-Err.ensures.pull

pub returns-then-is_empty-clause-run : goal.returns-then-is_empty-clause-run
returns-then-is_empty-clause-run g c =
    over_at_end _ _ _ _ _ _ _ _ c.loop-turn.invariant.0 _ _ _ c.requires.devices c.loop-turn-test.true c.in_ok-make_room.ensures.rest _
    c.in-Ok.ensures.pull c.if-got-eq0.true _ c.rest.ensures _ c.is_empty.ensures _ c.if-is_empty.true c.done.ensures.messages
    c.done.ensures.written c.done.ensures.balances

pub returns-then-got-eq0-clause-run : goal.returns-then-got-eq0-clause-run
returns-then-got-eq0-clause-run g c =
    over_cut_off _ _ _ _ _ _ _ _ c.loop-turn.invariant.0 _ _ _ c.requires.devices c.loop-turn-test.true c.in_ok-make_room.ensures.rest _
    c.in-Ok.ensures.pull c.if-got-eq0.true _ c.rest.ensures _ c.is_empty.ensures _ c.if-is_empty.false

-- what a pull gave follows what was left
fed_now : (g : Over) (c : In-Ok g) → (c.in-Ok.got ≡ 0 → ⊥)
    → IsFollowed (g.T.AnswersRounds.answering c.args.answers.now) (g.T.AnswersRounds.nodes c.args.answers.now) c.args.until
    (devices (g.S.Source.state c.args.source.now) (g.K.Sink.state c.args.sink.now)) c.loop-turn._turn
    (devices (g.S.Source.state c.pull.new.source) (g.K.Sink.state c.loop-turn.sink))
    (record (serving_state c.loop-turn.progress) { rest = held_in c.pull.new.self })
fed_now g c some =
    follows _ _ _ _ _ _ _ _ c.loop-turn.invariant.0 _ _ _ c.requires.devices c.loop-turn-test.true c.in_ok-make_room.ensures.rest _
    c.in-Ok.ensures.pull some

pub answer_all-requires-clause-in_order : goal.answer_all-requires-clause-in_order
answer_all-requires-clause-in_order g c =
    let fed = fed_now g (goal.at.answer_all-requires-clause-in_order g c).In-Ok c.if-got-eq0.false in
    record {
      range = c.pull.ensures.range;
      small = follows_small _ _ _ _ _ _ _ _ c.loop-turn.invariant.0 _ _ _ c.requires.devices c.loop-turn-test.true
          c.in_ok-make_room.ensures.rest fed c.loop-turn.invariant.1.small;
    }

pub returns-in-Err-answer_all-clause-run : goal.returns-in-Err-answer_all-clause-run
returns-in-Err-answer_all-clause-run g c =
    over_for_halt _ _ _ _ _ _ _ _ (fed_now g (goal.at.returns-in-Err-answer_all-clause-run g c).In-Ok c.if-got-eq0.false) _ _ _
    c.loop-turn-test.true c.in-Err-answer_all.ensures.err

pub bad_length-requires : goal.bad_length-requires
bad_length-requires g c = subst IsRest (sym c.rest-in-loop-turn.ensures) c.in-Ok-answer_all.ensures.ok.1

pub returns-in-Some-clause-run : goal.returns-in-Some-clause-run
returns-in-Some-clause-run g c =
    over_for_bad _ _ _ _ _ _ _ _ (fed_now g (goal.at.returns-in-Some-clause-run g c).In-Ok c.if-got-eq0.false) _ _
    c.in-Ok-answer_all.ensures.ok.0 _ c.in-Some.len c.loop-turn-test.true
    (subst (λ l. IsBad l c.in-Some.len) c.rest-in-loop-turn.ensures c.in-Some.ensures)

pub loop-turn-preserved : goal.loop-turn-preserved
loop-turn-preserved g c =
    let fed = fed_now g (goal.at.loop-turn-preserved g c).In-Ok c.if-got-eq0.false in (
      awaits_on _ _ _ _ _ c.args.turns _ _ fed _ _ c.in-Ok-answer_all.ensures.ok.0
          (subst IsOpen c.rest-in-loop-turn.ensures c.in_default.ensures)
          (c.is_reached.ensures.waits c.if-is_reached.false),
      c.in-Ok-answer_all.ensures.in_order,
    )

pub is_reached-requires : goal.is_reached-requires
is_reached-requires g c = c.in-Ok-answer_all.ensures.in_order.range

pub returns-then-is_reached-clause-run : goal.returns-then-is_reached-clause-run
returns-then-is_reached-clause-run g c =
    let fed = fed_now g (goal.at.returns-then-is_reached-clause-run g c).In-Ok c.if-got-eq0.false in
    over_begun _ _ _ _ _ _ _ _ fed _ _ c.in-Ok-answer_all.ensures.ok.0 (subst IsOpen c.rest-in-loop-turn.ensures c.in_default.ensures)
    c.as_begun.result (c.is_reached.ensures.asked c.if-is_reached.true) c.loop-turn-test.true
    (c.is_reached.ensures.rest c.if-is_reached.true) c.as_begun.ensures.session
    (c.is_reached.ensures.ready c.if-is_reached.true) c.as_begun.ensures.messages c.as_begun.ensures.written c.as_begun.ensures.balances

pub returns-then-is_reached-clause-end : goal.returns-then-is_reached-clause-end
returns-then-is_reached-clause-end g c = tt

pub returns-then-is_reached-clause-at_once : goal.returns-then-is_reached-clause-at_once
returns-then-is_reached-clause-at_once g c = λ none. absurd (c.if-turns-eq0.false none)

pub returns-clause-run : goal.returns-clause-run
returns-clause-run g c =
    let last : c.loop-turn._turn ≡ c.args.turns = omega (arith, c.loop-turn-test.false, c.loop-turn.auto._turn-end) in
    over_for_turns _ _ _ _ _ _ _ _ c.loop-turn.invariant.0 _ last

pub returns-then-turns-eq0-clause-end : goal.returns-then-turns-eq0-clause-end
returns-then-turns-eq0-clause-end g c = tt

pub returns-then-turns-eq0-clause-at_once : goal.returns-then-turns-eq0-clause-at_once
returns-then-turns-eq0-clause-at_once g c = λ _. refl

pub returns-in_err-progress-clause-at_once : goal.returns-in_err-progress-clause-at_once
returns-in_err-progress-clause-at_once g c = λ none. absurd (c.if-turns-eq0.false none)

pub make_room-requires : goal.make_room-requires
make_room-requires g c = c.loop-turn.invariant.1.range

pub returns-in_err-make_room-clause-at_once : goal.returns-in_err-make_room-clause-at_once
returns-in_err-make_room-clause-at_once g c = λ none. absurd (c.if-turns-eq0.false none)

pub pull-requires-clause-range : goal.pull-requires-clause-range
pull-requires-clause-range g c = c.in_ok-make_room.ensures.range

pub pull-requires-clause-room : goal.pull-requires-clause-room
pull-requires-clause-room g c = c.in_ok-make_room.ensures.room

pub returns-in-Err-clause-end : goal.returns-in-Err-clause-end
returns-in-Err-clause-end g c = tt

pub returns-in-Err-clause-at_once : goal.returns-in-Err-clause-at_once
returns-in-Err-clause-at_once g c = λ none. absurd (c.if-turns-eq0.false none)

pub rest-requires : goal.rest-requires
rest-requires g c = c.pull.ensures.range

pub returns-then-is_empty-clause-end : goal.returns-then-is_empty-clause-end
returns-then-is_empty-clause-end g c = c.in-Ok.ensures.end c.if-got-eq0.true

pub returns-then-is_empty-clause-at_once : goal.returns-then-is_empty-clause-at_once
returns-then-is_empty-clause-at_once g c = λ none. absurd (c.if-turns-eq0.false none)

pub returns-then-got-eq0-clause-end : goal.returns-then-got-eq0-clause-end
returns-then-got-eq0-clause-end g c = tt

pub returns-then-got-eq0-clause-at_once : goal.returns-then-got-eq0-clause-at_once
returns-then-got-eq0-clause-at_once g c = λ none. absurd (c.if-turns-eq0.false none)

pub answer_all-requires-clause-ready : goal.answer_all-requires-clause-ready
answer_all-requires-clause-ready g c = c.requires.ready

pub returns-in-Err-answer_all-clause-end : goal.returns-in-Err-answer_all-clause-end
returns-in-Err-answer_all-clause-end g c = tt

pub returns-in-Err-answer_all-clause-at_once : goal.returns-in-Err-answer_all-clause-at_once
returns-in-Err-answer_all-clause-at_once g c = λ none. absurd (c.if-turns-eq0.false none)

pub rest-requires-in-loop-turn : goal.rest-requires-in-loop-turn
rest-requires-in-loop-turn g c = c.in-Ok-answer_all.ensures.in_order.range

pub returns-in-Some-clause-end : goal.returns-in-Some-clause-end
returns-in-Some-clause-end g c = tt

pub returns-in-Some-clause-at_once : goal.returns-in-Some-clause-at_once
returns-in-Some-clause-at_once g c = λ none. absurd (c.if-turns-eq0.false none)

pub returns-clause-end : goal.returns-clause-end
returns-clause-end g c = tt

pub returns-clause-at_once : goal.returns-clause-at_once
returns-clause-at_once g c = λ none. absurd (c.if-turns-eq0.false none)
