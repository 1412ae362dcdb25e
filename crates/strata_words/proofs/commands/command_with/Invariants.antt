use Rattle.std.proofs.Common.{◌≡◌, map, take}
use Rattle.clap.specs.Words.{app_of}
use Rattle.strata_words.specs.CommandLine.{command_with, rule_for}
use Rattle.strata_words.proofs.commands.command_with.Lts.Given.{Live-loop-argument}

-- the command has the arguments so far
abbrev pub invariant-loop-argument : Live-loop-argument → Type 0
invariant-loop-argument l = app_of l.command ≡ command_with l.fn.name (map rule_for (take l.argument-index l.fn.arguments))
