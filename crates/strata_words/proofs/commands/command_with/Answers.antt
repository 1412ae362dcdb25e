use Rattle.std.proofs.Common.{arith, ap, map, ◌∙◌, []}
use Rattle.std.proofs.lemmas.List.{take_all}
use Rattle.clap.specs.Simple.{app_of_fields}
use Rattle.strata_words.specs.CommandLine.{command_with, rule_for}
use Rattle.strata_words.specs.declared.commands.Form.TheVariants as forms
use Rattle.strata_words.specs.declared.commands.Argument.{Argument}
use Rattle.strata_words.proofs.Added.{added_rule, one_more}
use Rattle.strata_words.proofs.commands.command_with.Goals as goal

pub loop-argument-init : goal.loop-argument-init
loop-argument-init c = ap app_of_fields c.about-command.ensures ∙ c.new.ensures.app

-- the element after the end of a list of arguments
abbrev nothing : Argument
nothing = record {
  name = record { ref_ptr = (0, 0); now = [] };
  form = forms.Flag;
  help = record { ref_ptr = (0, 0); now = [] };
}

pub loop-argument-preserved : goal.loop-argument-preserved
loop-argument-preserved c =
    added_rule c.loop-argument.command c.arg_of.result c.in_ok-command.command _ _ c.in_ok-command.ensures c.loop-argument.invariant
    c.arg_of.ensures.rule c.arg_of.ensures.local
    ∙ one_more c.args.name.now c.args.arguments.now c.loop-argument.argument-index nothing (omega arith)

pub returns : goal.returns
returns c = c.loop-argument.invariant ∙ ap (λ arguments. command_with c.args.name.now (map rule_for arguments)) (take_all _ _ (omega arith))
