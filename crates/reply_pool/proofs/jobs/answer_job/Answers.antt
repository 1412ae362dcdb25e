use Rattle.std.proofs.Common.{◌≡◌, ◌∙◌, ◌+◌, ◌≤◌, ◌^◌, arith, ap, length, length-append, OnOk, Ok, Err, Result, List, ◌++◌}
use Rattle.fuse_wire.specs.Reads.{asked_of}
use Rattle.reply_model.specs.declared.moves.Move.{Move}
use Rattle.reply_model.specs.Moves.{moves}
use Rattle.reply_rounds.proofs.Few.{few_moves}
use Rattle.reply_pool.proofs.jobs.answer_job.Goals as goal

grown : {E : Type 0} (r : Result (Unit {0}) E) (old new more : List Move) → OnOk r (new ≡ old ++ more) → length more ≤ 2 ^ 32
    → OnOk r (length new ≤ length old + 2 ^ 32)
grown (Ok u) old new more same few = let e = ap length same ∙ length-append old more in omega arith
grown (Err e) old new more same few = tt

pub returns-clause-few : goal.returns-clause-few
returns-clause-few g c =
    let job = c.args.job.now in
    let stack = c.args.served.table.now in
    grown c.moves.result c.args.moved.now.items c.moves.new.into.items (moves stack job.0 (asked_of job.1))
    c.moves.ensures.moves.0
    (few_moves stack job.0 job.1)
