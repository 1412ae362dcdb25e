use Rattle.std.proofs.Common.{map}
use Rattle.clap.specs.Words.{app_of}
use Rattle.strata_words.proofs.Parsed.{parsed_taken, parsed_command, parsed_fault}
use Rattle.strata_words.proofs.parse.matches_of.Goals as goal

pub returns-in-Ok-clause-taken : goal.returns-in-Ok-clause-taken
returns-in-Ok-clause-taken g c = parsed_taken (app_of c.in_ok-program.field-0)
    (map g.S.AsStr.text c.args.words.now) c.in_ok-program.ensures c.in-Ok.ensures.kinds

pub returns-in-Ok-clause-command : goal.returns-in-Ok-clause-command
returns-in-Ok-clause-command g c = parsed_command (app_of c.in_ok-program.field-0)
    (map g.S.AsStr.text c.args.words.now) c.in-Ok.matches c.in_ok-program.ensures c.in-Ok.ensures.matches

pub returns-in-Err-clause-err : goal.returns-in-Err-clause-err
returns-in-Err-clause-err g c = parsed_fault (app_of c.in_ok-program.field-0)
    (map g.S.AsStr.text c.args.words.now) c.in-Err.error c.refusal.result c.in_ok-program.ensures
    c.in-Err.ensures.kinds c.refusal.ensures
