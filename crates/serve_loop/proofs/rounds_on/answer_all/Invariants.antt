use Rattle.std.proofs.Common.{length}
use Rattle.serve_loop.specs.Steps.{serving_state, IsInOrder, Proceeds}
use Rattle.serve_loop.proofs.rounds_on.answer_all.Given as goal

-- some messages are answered, and their replies flushed
abbrev pub invariant-loop-fault : goal.invariant-loop-fault
invariant-loop-fault g l =
    Proceeds (g.T.AnswersRounds.answering l.answers) (serving_state l.initial.progress) (serving_state l.progress)
    (g.K.Sink.state l.initial.sink) (g.K.Sink.state l.sink)
    × IsInOrder (g.T.AnswersRounds.nodes l.answers) l.progress

-- how many bytes are not answered yet
abbrev pub decreases-loop-fault : goal.decreases-loop-fault
decreases-loop-fault g l = length (serving_state l.progress).rest
