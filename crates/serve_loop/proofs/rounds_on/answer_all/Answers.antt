use Rattle.std.proofs.Common.{◌++◌, subst}
use Rattle.std.proofs.KnownBytes.{Appends-trans}
use Rattle.serve_loop.specs.Steps.{serving_state, GoesOn}
use Rattle.serve_loop.proofs.Rounding.{halts_further, proceeds_further, proceeds_nowhere}
use Rattle.serve_loop.proofs.rounds_on.answer_all.Goals as goal

pub loop-fault-init : goal.loop-fault-init
loop-fault-init g c =
    (proceeds_nowhere (g.T.AnswersRounds.answering c.args.answers.now) (serving_state c.args.progress.now) _, c.requires.in_order)

pub loop-fault-preserved : goal.loop-fault-preserved
loop-fault-preserved g c =
    (proceeds_further _ _ _ _ _ _ _ c.loop-fault.invariant.0 c.in-Ok-true.ensures.ok.0, c.in-Ok-true.ensures.in_order)

pub returns-in-Ok-false-clause-ok : goal.returns-in-Ok-false-clause-ok
returns-in-Ok-false-clause-ok g c = (
  proceeds_further _ _ _ _ _ _ _ c.loop-fault.invariant.0 c.in-Ok-false.ensures.ok.0,
  subst (λ b. GoesOn b (serving_state c.loop-fault.progress) (serving_state c.answer_round.new.progress)) c.in-Ok-false.field-0-test
      c.in-Ok-false.ensures.ok.1,
)

pub returns-in-Err-clause-err : goal.returns-in-Err-clause-err
returns-in-Err-clause-err g c =
    let so_far = c.loop-fault.invariant.0 in
    let (more, and, halted) = c.in-Err.ensures.err in (
      so_far.put ++ more,
      Appends-trans _ _ _ _ _ so_far.held and,
      halts_further _ _ _ _ _ _ _ so_far.messages so_far.put more so_far.goes so_far.flushed halted,
    )
