use Rattle.std.proofs.Common.{◌∙◌, sym, arith}
use Rattle.romfs_sets.proofs.Classing.{none_unlike, one_unlike, all_unlike}
use Rattle.romfs_sets.proofs.names.has_alike.Goals as goal

pub loop-at-init : goal.loop-at-init
loop-at-init c = none_unlike c.args.named.now

pub loop-at-preserved : goal.loop-at-preserved
loop-at-preserved c =
    one_unlike c.args.named.now c.loop-at.at c.order.result c.order.ensures
    (sym c.is_eq.ensures ∙ c.if-is_eq.false) c.loop-at.invariant

pub returns : goal.returns
returns c = λ e name n by. all_unlike name n c.args.named.now by c.loop-at.at (omega arith) c.loop-at.invariant
