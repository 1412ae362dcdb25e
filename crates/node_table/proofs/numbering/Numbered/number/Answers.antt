use Rattle.std.proofs.Common.{length, ap, arith}
use Rattle.node_table.specs.Numbering.{Numbering}
use Rattle.node_table.proofs.Counting.{apart_told, number_apart}
use Rattle.node_table.proofs.numbering.Numbered.number.Goals as goal

pub overflow_add-result : goal.overflow_add-result
overflow_add-result g c = omega (arith, c.requires, c.self.invariant, ap (λ (x : Numbering). length x.numbers) c.self.view_is)

pub returns-in-Apart : goal.returns-in-Apart
returns-in-Apart g c = number_apart c.in-Apart.field-0 (apart_told _ c.in-Apart.is c.self.view_is) c.args.branch c.requires
