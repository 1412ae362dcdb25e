use Rattle.std.proofs.Common.{ap}
use Rattle.devices.specs.States.{SinkState, SourceState}
use Rattle.strata.proofs.Served.{from_file, from_input, served_as, to_file, to_output}
use Rattle.strata.proofs.serving.serve_stream.Goals as goal

pub returns-in-Some-Some : goal.returns-in-Some-Some
returns-in-Some-Some g c =
    served_as c.args.line.now _ _ _ c.run.result _ _ _ _ c.first_of.ensures c.counted_of.ensures
    (record { pulls = ap (λ (s : SourceState). s.counts) c.new-from.ensures; pushes = ap (λ (s : SinkState). s.counts) c.new-to.ensures })
    c.run.ensures
    (λ t _. from_file _ c.args.requests _ t _ _ c.requires.requests c.in-Some-Some.is-0)
    (λ t _. to_file _ c.args.replies _ t _ c.requires.replies c.in-Some-Some.is-1)

pub returns-in-Some-None : goal.returns-in-Some-None
returns-in-Some-None g c =
    served_as c.args.line.now _ _ _ c.run-in-Some-None.result _ _ _ _ c.first_of.ensures c.counted_of.ensures
    (record { pulls = ap (λ (s : SourceState). s.counts) c.new.ensures; pushes = c.requires.new.pushes })
    c.run-in-Some-None.ensures
    (λ t _. from_file _ c.args.requests _ t _ _ c.requires.requests c.in-Some-None.is-0)
    (λ t took. to_output _ c.args.replies t _ _ c.requires.replies c.in-Some-None.is-1 took)

pub returns-in-None-Some : goal.returns-in-None-Some
returns-in-None-Some g c =
    served_as c.args.line.now _ _ _ c.run-in-None-Some.result _ _ _ _ c.first_of.ensures c.counted_of.ensures
    (record { pulls = c.requires.new.pulls; pushes = ap (λ (s : SinkState). s.counts) c.new-in-None-Some.ensures })
    c.run-in-None-Some.ensures
    (λ t gave. from_input _ c.args.requests t _ _ _ c.requires.requests c.in-None-Some.is-0 gave)
    (λ t _. to_file _ c.args.replies _ t _ c.requires.replies c.in-None-Some.is-1)

pub returns-in-None-None : goal.returns-in-None-None
returns-in-None-None g c =
    served_as c.args.line.now _ _ _ c.run-in-None-None.result _ _ _ _ c.first_of.ensures c.counted_of.ensures c.requires.new
    c.run-in-None-None.ensures
    (λ t gave. from_input _ c.args.requests t _ _ _ c.requires.requests c.in-None-None.is-0 gave)
    (λ t took. to_output _ c.args.replies t _ _ c.requires.replies c.in-None-None.is-1 took)
