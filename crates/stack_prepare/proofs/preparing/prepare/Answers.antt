use Rattle.std.proofs.Common.{◌∙◌}
use Rattle.stack_prepare.specs.Layers.{AreRefused, held_contents}
use Rattle.stack_prepare.specs.declared.refusal.Refusal.TheVariants.{Memory}
use Rattle.stack_prepare.proofs.Stacked.{are_stacked, few_held, passed_on, whole_are}
use Rattle.stack_prepare.proofs.preparing.prepare.Goals as goal

pub returns-clause-ok : goal.returns-clause-ok
returns-clause-ok g c = are_stacked c.in_ok-images.ensures.ok c.args.owner _ c.in_ok-table_of_layers.ensures.stack

pub returns-clause-whole : goal.returns-clause-whole
returns-clause-whole g c = c.in_ok-table_of_layers.ensures.whole ∙ whole_are c.in_ok-images.ensures.ok

pub returns-in_err-table_of_layers-clause-err : goal.returns-in_err-table_of_layers-clause-err
returns-in_err-table_of_layers-clause-err g c =
    passed_on c.from_residual-in_err-table_of_layers.result (λ refusal. AreRefused c.args.profile (held_contents c.args.images) refusal)
    Memory c.from_residual-in_err-table_of_layers.ensures.1 (few_held c.in_ok-images.ensures.ok)
