use Rattle.std.proofs.Common.{◌∙◌, ap, arith}
use Rattle.std.proofs.lemmas.List.{take_rest}
use Rattle.layer_names.specs.Keys.{key}
use Rattle.layer_names.proofs.Order.{all_bytes}
use Rattle.layer_names.proofs.adding.key_past.Goals as goal

pub returns-clause-value : goal.returns-clause-value
returns-clause-value c = c.key_of.ensures ∙ ap (key 8) (take_rest c.args.name.now c.args.shared)

pub returns-clause-bytes : goal.returns-clause-bytes
returns-clause-bytes c = all_bytes c.args.name.now (λ k. let h = c.type_inv.name k in omega arith)
