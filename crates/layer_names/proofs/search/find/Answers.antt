use Rattle.std.proofs.Common.{◌≡◌, ◌∙◌, ℕ, List, [], ◌<◌, length, map, sym, ap, arith}
use Rattle.std.specs.List.{slice_index_or}
use Rattle.std.proofs.lemmas.List.{length-map, take_rest}
use Rattle.std.proofs.lemmas.Slice.Eq.{bytes_eq-Decides}
use Rattle.layer_names.specs.Keys.{key}
use Rattle.layer_names.proofs.Places.{nowhere, here, not_this}
use Rattle.layer_names.proofs.Rows.{name_at}
use Rattle.layer_names.proofs.Narrow.{length-keys, keys_rise, narrows, not_noted, too_short}
use Rattle.layer_names.proofs.search.find.Given.{Over}
use Rattle.layer_names.proofs.search.find.Goals.{After-index-rows-low}
use Rattle.layer_names.proofs.search.find.Goals as goal

pub returns-then-name-shared : goal.returns-then-name-shared
returns-then-name-shared g c =
    let names = map g.T.HasName.name c.args.rows.now in
    nowhere names c.args.name.now (too_short c.args.shared c.args.keys.now names c.requires.keyed c.args.name.now c.if-name-shared.true)

pub returns-then-not-may_have : goal.returns-then-not-may_have
returns-then-not-may_have g c =
    let names = map g.T.HasName.name c.args.rows.now in
    nowhere names c.args.name.now (not_noted c.args.shared c.args.keys.now names c.requires.keyed c.args.name.now c.args.filter.now
    c.args.directory _ (c.key_of-key.ensures ∙ ap (key 8) (take_rest c.args.name.now c.args.shared)) c.requires.noted
    (λ noted. let yes = c.may_have.ensures.0 noted in let is = c.if-not-may_have.true in cc))

pub run_of-low-requires : goal.run_of-low-requires
run_of-low-requires g c = keys_rise c.args.shared c.args.keys.now (map g.T.HasName.name c.args.rows.now) c.requires.keyed

pub find_by_name-requires-clause-narrows : goal.find_by_name-requires-clause-narrows
find_by_name-requires-clause-narrows g c =
    narrows c.args.shared c.args.keys.now (map g.T.HasName.name c.args.rows.now) c.requires.keyed c.args.name.now _ _ _
    (c.key_of-key.ensures
    ∙ ap (key 8) (take_rest c.args.name.now c.args.shared)) c.run_of-low.ensures

-- there is a row at the remaining place, and what was read of it is the name at that place
at_low : (g : Over) (c : After-index-rows-low g) (name : List ℕ) → name ≡ g.T.HasName.name c.index-rows-low.result
    → (c.run_of-low.result.0 < length (map g.T.HasName.name c.args.rows.now))
    × (slice_index_or (map g.T.HasName.name c.args.rows.now) c.run_of-low.result.0 [] ≡ name)
at_low g c name is =
    let rows = c.args.rows.now in
    let m = length-map rows g.T.HasName.name in
    let n = length-keys c.args.shared c.args.keys.now (map g.T.HasName.name rows) c.requires.keyed in
    let w = c.run_of-low.ensures.within_high in (
      omega arith,
      name_at g.T.HasName.name rows _ _ _ (omega arith) c.index-rows-low.is is,
    )

pub returns-then-eq : goal.returns-then-eq
returns-then-eq g c =
    let its = at_low g (goal.at.returns-then-eq g c).After-index-rows-low _ c.name.ensures in
    here (map g.T.HasName.name c.args.rows.now) c.args.name.now c.run_of-low.result.0 c.requires.keyed.rise its.0 (its.1
    ∙ (bytes_eq-Decides c.name.result.now c.args.name.now).0 (sym c.eq.ensures ∙ c.if-eq.true))

pub returns-else-eq : goal.returns-else-eq
returns-else-eq g c =
    let names = map g.T.HasName.name c.args.rows.now in
    let its = at_low g (goal.at.returns-else-eq g c).After-index-rows-low _ c.name.ensures in
    let left = narrows c.args.shared c.args.keys.now names c.requires.keyed c.args.name.now _ _ _ (c.key_of-key.ensures
    ∙ ap (key 8) (take_rest c.args.name.now c.args.shared)) c.run_of-low.ensures in
    nowhere names c.args.name.now (not_this names c.args.name.now _ c.run_of-low.result.1 left c.if-low-high.false (λ e. let t =
    c.eq.ensures ∙ (bytes_eq-Decides c.name.result.now c.args.name.now).1 (sym its.1 ∙ e) in let f = c.if-eq.false in cc))
