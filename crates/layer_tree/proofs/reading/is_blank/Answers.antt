use Rattle.std.proofs.Common.{◌∙◌, sym, ap}
use Rattle.std.proofs.lemmas.Bool.{not-true}
use Rattle.layer_tree.proofs.Folding.{blank_below}
use Rattle.layer_tree.proofs.reading.is_blank.Goals.{then-not-value, else-not-value}
use Rattle.layer_tree.proofs.reading.is_blank.Goals as goal

pub returns-then-not-value-2 : goal.returns-then-not-value-2
returns-then-not-value-2 g c =
    elim c.if-not-value.branch [
      | then-not-value w ↦ blank_below c.args.mark.now _ c.is_empty.result
          (ap (λ v. v.cut) (sym c.value.ensures) ∙ not-true _ w.if-not-value.true)
          (ap (λ v. v.opaque) (sym w.value-then-not-value.ensures) ∙ not-true _ (sym w.value-is ∙ c.if-not-value-2.true))
          c.children.ensures.below c.is_empty.ensures
      | else-not-value w ↦ absurd (let f = sym w.value-is ∙ c.if-not-value-2.true in cc)
    ]
