use Rattle.std.proofs.Common.{◌≡◌, ◌∙◌, Ok, Result, Some, map}
use Rattle.clap.specs.Words.{found_of, rows_of}
use Rattle.strata_words.specs.CommandLine.{command_in}
use Rattle.strata_words.specs.declared.options.Line.{Line}
use Rattle.strata_words.specs.declared.options.LineFault.{LineFault}
use Rattle.strata_words.proofs.Parsed.{command_filled, command_gives, command_verb, fault_is, line_is, met_command, some_command}
use Rattle.strata_words.proofs.parse.line.Given.{Over}
use Rattle.strata_words.proofs.parse.line.Goals.{After-unwrap}
use Rattle.strata_words.proofs.parse.line.Goals as goal

-- the command that the words name, by its name and its rows
met : (g : Over) (c : After-unwrap g) → command_in (map g.S.AsStr.text c.args.words.now)
    ≡ Some (c.unwrap.result.0.now, rows_of (found_of c.unwrap.result.1.now))
met g c =
    met_command c.in_ok-matches.matches (map g.S.AsStr.text c.args.words.now) c.subcommand.result c.unwrap.result
    c.subcommand.ensures.name c.subcommand.ensures.rows c.unwrap.ensures
    c.in_ok-matches.ensures.command

pub unwrap-requires : goal.unwrap-requires
unwrap-requires g c = c.subcommand.ensures.variant
    ∙ some_command c.in_ok-matches.matches (map g.S.AsStr.text c.args.words.now) c.in_ok-matches.ensures.taken
    c.in_ok-matches.ensures.command

pub verb_of-requires : goal.verb_of-requires
verb_of-requires g c = command_verb _ _ _ c.in_ok-matches.ensures.taken (met g (goal.at.verb_of-requires g c).After-unwrap)

pub line_of-requires-clause-filled : goal.line_of-requires-clause-filled
line_of-requires-clause-filled g c =
    command_filled _ _ _ c.in_ok-matches.ensures.taken (met g (goal.at.line_of-requires-clause-filled g c).After-unwrap)

pub line_of-requires-clause-socket : goal.line_of-requires-clause-socket
line_of-requires-clause-socket g c =
    command_gives _ _ _ c.verb_of.result c.in_ok-matches.ensures.taken (met g (goal.at.line_of-requires-clause-socket g c).After-unwrap)
    c.verb_of.ensures

pub returns-in-Ok-clause-ok : goal.returns-in-Ok-clause-ok
returns-in-Ok-clause-ok g c =
    let read : Result Line LineFault = Ok c.in-Ok.line in
    line_is _ _ _ c.verb_of.result read c.in_ok-matches.ensures.taken (met g (goal.at.returns-in-Ok-clause-ok g c).After-unwrap)
    c.verb_of.ensures c.in-Ok.ensures.ok.same c.in-Ok.ensures.ok.holds

pub returns-in-Ok-clause-limits : goal.returns-in-Ok-clause-limits
returns-in-Ok-clause-limits g c = c.in-Ok.ensures.ok.limits

pub returns-in-Ok-clause-some_image : goal.returns-in-Ok-clause-some_image
returns-in-Ok-clause-some_image g c = c.in-Ok.ensures.ok.some_image

pub returns-in-Ok-clause-socket : goal.returns-in-Ok-clause-socket
returns-in-Ok-clause-socket g c = c.in-Ok.ensures.ok.socket

pub returns-clause-err : goal.returns-clause-err
returns-clause-err g c =
    fault_is _ _ _ c.in-Err.fault c.in_ok-matches.ensures.taken (met g (goal.at.returns-clause-err g c).After-unwrap)
    c.in-Err.ensures.err
