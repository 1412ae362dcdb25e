use Rattle.std.proofs.Common.{◌∙◌, map, sym, arith}
use Rattle.std.proofs.lemmas.List.{length-map}
use Rattle.std.proofs.lemmas.Slice.Eq.{bytes_eq-Decides}
use Rattle.layer_names.proofs.Places.{here}
use Rattle.layer_names.proofs.Rows.{name_at}
use Rattle.layer_names.proofs.guesses.Guesses.find.Goals as goal

pub returns-then-eq : goal.returns-then-eq
returns-then-eq g c =
    let rows = c.args.rows.now in
    let m = length-map rows g.T.HasName.name in
    let same = (bytes_eq-Decides c.name.result.now c.args.name.now).0 (sym c.eq.ensures ∙ c.if-eq.true) in
    sym (here (map g.T.HasName.name rows) c.args.name.now _ c.requires (omega (arith, m))
    (name_at g.T.HasName.name rows _ _ _ (omega arith) c.index-rows-at.is c.name.ensures ∙ same))
