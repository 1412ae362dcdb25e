use Rattle.std.proofs.Common.{rules, ◌≡◌, ◌∙◌, IfOk}
use Rattle.devices.specs.States.{devices}
use Rattle.fuse_answer.specs.Puts.{sourced_by}
use Rattle.reply_pool.specs.Spread.{SpreadsFrom}
use Rattle.serve_core.specs.Headline.{bounds_of}
use Rattle.serve_core.proofs.Headline.{spread_answers}
use Rattle.serve_core.proofs.Openings.{looped_by, same_served}
use Rattle.serve_core.proofs.running.Serving.run_until.Goals as goal

pub returns : goal.returns
returns g c =
    let serving = c.args.self.now in
    let by = sourced_by g.D.Contents.source serving.served in
    let within = bounds_of g.D.Contents.source serving in
    let old = devices (g.S.Source.state c.args.source.now) (g.K.Sink.state c.args.sink.now) in
    let new = devices (g.S.Source.state c.run_until.new.source) (g.K.Sink.state c.run_until.new.sink) in
    record {
      run = looped_by {A = g.row.A.Denot} c.args.until within old new c.run_until.result c.new-pool.result.first serving.terms.first _ by
          c.new-pool.result.counted c.new-pool.ensures.first
          (same_served g.D.Contents.source _ _ _ _ c.new-pool.ensures.table c.new-pool.ensures.files)
          (c.new-pool.ensures.counted ∙ c.nodes_counted-counted.ensures) c.run_until.ensures.run;
      end = c.run_until.ensures.end;
      at_once = c.run_until.ensures.at_once;
    }

pub run_until-requires-clause-ready : goal.run_until-requires-clause-ready
run_until-requires-clause-ready g c =
    let over = sourced_by g.D.Contents.source c.new-pool.result.served in
    let by = sourced_by g.D.Contents.source c.args.self.now.served in
    let same : over ≡ by = same_served g.D.Contents.source _ _ _ _ c.new-pool.ensures.table c.new-pool.ensures.files in
    record {
      takes = λ stream session messages spreadable. search rules;
      whole = λ stream session messages given gives. search rules;
      answers = λ stream session messages given gives. (let out : IfOk given (λ spread. SpreadsFrom by session stream.now spread) = search
          rules in
          spread_answers _ over by session stream.now given same out);
    }
