use Rattle.std.proofs.Common.{arith}
use Rattle.layer_names.proofs.Order.{all_bytes}
use Rattle.layer_tree.proofs.members.key_of.Goals as goal

pub returns-clause-bytes : goal.returns-clause-bytes
returns-clause-bytes c = all_bytes c.args.name.now (λ k. let h = c.type_inv.name k in omega arith)
