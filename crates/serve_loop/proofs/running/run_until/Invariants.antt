use Rattle.devices.specs.States.{devices}
use Rattle.serve_loop.specs.Steps.{serving_state, IsInOrder}
use Rattle.serve_loop.proofs.Openings.{IsAwaiting}
use Rattle.serve_loop.proofs.running.run_until.Given as goal

-- everything complete was answered, and more is awaited
abbrev pub invariant-loop-turn : goal.invariant-loop-turn
invariant-loop-turn g l =
    IsAwaiting (g.T.AnswersRounds.answering l.answers) (g.T.AnswersRounds.nodes l.answers) l.until
    (devices (g.S.Source.state l.fn.source) (g.K.Sink.state l.fn.sink)) l._turn
    (devices (g.S.Source.state l.source) (g.K.Sink.state l.sink)) (serving_state l.progress)
    × IsInOrder (g.T.AnswersRounds.nodes l.answers) l.progress
