use Rattle.std.proofs.Common.{◌-◌, length, map, arith}
use Rattle.std.proofs.lemmas.List.{length-map}
use Rattle.layer_names.proofs.Fronts.{share}
use Rattle.layer_names.proofs.Rows.{name_at}
use Rattle.layer_names.proofs.adding.shared_by_all.Goals as goal

pub returns-in-Some-Some : goal.returns-in-Some-Some
returns-in-Some-Some g c =
    let rows = c.args.rows.now in
    let name = g.T.HasName.name in
    let first = c.in-Some-Some.ensures in
    let last = c.in-Some-Some.ensures' in
    let some = first.item.3.0 in
    let m = length-map rows name in
    share c.shared.result (map name rows) _ _ c.requires
    (name_at name rows 0 _ _ some first.item.1 c.name.ensures)
    (rw m (name_at name rows (length rows - 1) _ _ (omega arith) last.item.1 c.name-in-Some-Some.ensures))
    c.shared.ensures.bound_a c.shared.ensures.same
