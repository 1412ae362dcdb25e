use Rattle.std.proofs.Common.{◌≡◌, ◌∙◌, ◌<◌, ◌-◌, ap, get_or, sym, length, arith}
use Rattle.std.proofs.lemmas.Bool.{ltb-true}
use Rattle.std.proofs.lemmas.List.{get_or_default}
use Rattle.romfs_format.specs.declared.attribute_row.AttributeRow.{AttributeRow}
use Rattle.romfs_rows.proofs.Search.{first}
use Rattle.romfs_rows.proofs.rows.Rows.is_first.Goals as goal

pub returns-else-position-eq0-clause-value : goal.returns-else-position-eq0-clause-value
returns-else-position-eq0-clause-value g c is =
    let xs = c.self.inside.rows.items in
    let row = c.in-Some.row.now in
    let i = c.args.position in
    let at = rw c.deref.ensures.value at c.in-Some.ensures.lookup.3 in
    let l = at.0 in
    let here = ap (λ (y : AttributeRow). y.place) (sym (at.1 row)) ∙ sym c.place.ensures ∙ c.if-place.true in
    let low = ltb-true _ _ is in
    let same = ap (λ (y : AttributeRow). y.place) (get_or_default xs (i - 1) c.index.result.now row (omega arith)) in
    let before = ap (λ (y : AttributeRow). y.place) c.index.ensures in
    let read = c.place-else-position-eq0.ensures in
    rw (← c.self.view_is) (first xs c.args.place i row c.self.invariant.rising l (λ _. omega arith) here)
