-- What adding an argument or a command does to a command: `added_rule` and `added_command` say it for the app that the command builds,
-- which then determines the entire program.
use Rattle.std.proofs.Common.{◌≡◌, ◌∙◌, ◌<◌, ◌+◌, ℕ, true, false, ap, ap₂, sym, List, [], ◌∷◌, get_or, length, map, take}
use Rattle.std.proofs.lemmas.List.{map-append, take_more}
use Rattle.clap.specs.Built.{AddsArg, AddsSubcommand}
use Rattle.clap.specs.Simple.{App, app_of, with_rule, with_subcommand}
use Rattle.clap.specs.Walk.{Rule, Text, rule_of}
use Rattle.clap.specs.declared.builder.arg.Arg.{Arg}
use Rattle.clap.specs.declared.builder.command.Command.{Command}
use Rattle.strata_words.specs.CommandLine.{command_with, rule_for}
use Rattle.strata_words.specs.declared.commands.Argument.{Argument}
use Rattle.clap.proofs.SimpleLemmas.{plain_fields}

-- an argument of this rule
pub added_rule : (old : Command) (arg : Arg) (new : Command) (a : App) (r : Rule) → AddsArg old arg new → app_of old ≡ a → rule_of arg ≡ r
    → arg.global ≡ false
    → app_of new ≡ with_rule a r
added_rule old arg new a r added old_is rule_is local = added.shape local ∙ ap₂ with_rule old_is rule_is

-- a command without global arguments
pub added_command : (old sub new : Command) (a s : App) → AddsSubcommand old sub new → app_of old ≡ a → app_of sub ≡ s
    → s.top.is_plain ≡ true
    → app_of new ≡ with_subcommand a s.top
added_command old sub new a s added old_is sub_is plain =
    let local = plain_fields sub (ap (λ (x : App). x.top.is_plain) sub_is ∙ plain) in
    added.shape local.globals ∙ ap₂ with_subcommand old_is (ap (λ (x : App). x.top) sub_is)

-- one more of a list of arguments
pub one_more : (name : Text) (arguments : List Argument) (i : ℕ) (d : Argument) → i < length arguments
    → with_rule (command_with name (map rule_for (take i arguments))) (rule_for (get_or arguments i d))
    ≡ command_with name (map rule_for (take (i + 1) arguments))
one_more name arguments i d within =
    ap (λ rules. command_with name rules) (sym (ap (map rule_for) (take_more arguments i d within)
    ∙ map-append rule_for (take i arguments) (get_or arguments i d ∷ [])))
