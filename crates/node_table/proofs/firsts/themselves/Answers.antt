use Rattle.std.proofs.lemmas.Grind.{common_steps}
use Rattle.std.proofs.Common.{arith}
use Rattle.node_table.proofs.firsts.themselves.Goals as goal

pub loop-at-smaller : goal.loop-at-smaller
loop-at-smaller g c = omega arith

pub returns : goal.returns
returns g c = omega arith

pub returns-in_err-places : goal.returns-in_err-places
returns-in_err-places g c = grind (arith, common_steps)

pub loop-at-init : goal.loop-at-init
loop-at-init g c = grind (arith, common_steps)

pub returns-in_err-push : goal.returns-in_err-push
returns-in_err-push g c = grind (arith, common_steps)

pub loop-at-preserved : goal.loop-at-preserved
loop-at-preserved g c = grind (arith, common_steps)
