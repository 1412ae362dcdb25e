use Rattle.std.proofs.Common.{◌∙◌, ◌||◌, sym, ap, not, get_or}
use Rattle.std.proofs.lemmas.List.Folds.{list_any_at, list_any_more}
use Rattle.node_reader.proofs.Stamps.{has_row}
use Rattle.node_reader.proofs.stamped_rows.have_rows.Goals as goal

pub returns-then-not-is_empty : goal.returns-then-not-is_empty
returns-then-not-is_empty g c =
    let rows = c.args.rows.now in
    let i = c.loop-of_layer.of_layer-index in
    let of_layer = c.of_layer-item.result in
    sym (list_any_at has_row rows i of_layer c.loop-of_layer-test.true
    (ap has_row (sym c.of_layer-item.is) ∙ ap not (sym c.if-not-is_empty.ensures)))

pub loop-of_layer-preserved : goal.loop-of_layer-preserved
loop-of_layer-preserved g c =
    let rows = c.args.rows.now in
    let i = c.loop-of_layer.of_layer-index in
    let of_layer = c.of_layer-item.result in
    list_any_more has_row rows i of_layer c.loop-of_layer-test.true
    ∙ ap (λ some. some || has_row (get_or rows i of_layer)) c.loop-of_layer.invariant
    ∙ ap has_row (sym c.of_layer-item.is) ∙ ap not (sym c.if-not-is_empty.ensures)
