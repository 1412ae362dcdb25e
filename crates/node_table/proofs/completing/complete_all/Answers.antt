use Rattle.std.proofs.Common.{sym, ap, ◌∙◌, arith}
use Rattle.node_table.specs.Building.{completed}
use Rattle.node_table.proofs.Completed.{all_changed}
use Rattle.node_table.proofs.completing.complete_all.Goals as goal

pub returns : goal.returns
returns g c = all_changed completed c.args.nodes.now c.par_for_each_mut.new.s (omega (arith, c.par_for_each_mut.auto.s)) (λ k d lt.
    let at = (c.par_for_each_mut.ensures k d lt).1 in
    sym at.left ∙ at.call ∙ ap completed at.argument_is)
