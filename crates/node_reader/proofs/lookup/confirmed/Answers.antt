use Rattle.std.proofs.Common.{◌∙◌, sym, arith}
use Rattle.std.proofs.lemmas.List.{length-map}
use Rattle.std.proofs.lemmas.Slice.Eq.{bytes_eq-Decides}
use Rattle.layer_names.proofs.Places.{here}
use Rattle.layer_names.proofs.Rows.{name_at}
use Rattle.node_reader.specs.Rows.{Line, names}
use Rattle.node_reader.proofs.lookup.confirmed.Goals as goal

pub returns-then-eq : goal.returns-then-eq
returns-then-eq g c =
    let rows = c.args.rows.now in
    let m = length-map rows (λ (line : Line). line.name) in
    let same = (bytes_eq-Decides c.name.result.now c.args.name.now).0 (sym c.eq.ensures ∙ c.if-eq.true) in
    sym (here (names rows) c.args.name.now _ c.requires (omega (arith, m))
    (name_at (λ (line : Line). line.name) rows _ _ _ (omega arith) c.index-rows-at.is c.name.ensures ∙ same))
