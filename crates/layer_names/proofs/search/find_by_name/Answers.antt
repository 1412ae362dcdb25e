use Rattle.std.proofs.Common.{◌≡◌, ◌∙◌, [], List, ℕ, ◌+◌, ◌-◌, ◌/◌, ◌<◌, length, map, sym, ap, arith}
use Rattle.std.specs.List.{slice_index_or}
use Rattle.std.specs.Cmp.Lexicographic.{slice_cmp}
use Rattle.std.specs.Ordering.{nat_cmp}
use Rattle.std.proofs.lemmas.List.{length-map}
use Rattle.layer_names.proofs.Places.{higher, lower, nowhere, all_other, here, equal}
use Rattle.layer_names.proofs.Rows.{name_at}
use Rattle.layer_names.proofs.search.find_by_name.Given.{Over}
use Rattle.layer_names.proofs.search.find_by_name.Goals.{After-index-rows-middle}
use Rattle.layer_names.proofs.search.find_by_name.Goals as goal

-- the place in the middle of those that are left
abbrev middle : ℕ → ℕ → ℕ
middle low high = low + (high - low) / 2

-- there is a row there, and what was read of it is the name at that place
at_middle : (g : Over) (c : After-index-rows-middle g) (name : List ℕ) → name ≡ g.T.HasName.name c.index-rows-middle.result
    → (middle c.loop-low.low c.loop-low.high < length c.args.rows.now)
    × (slice_index_or (map g.T.HasName.name c.args.rows.now) (middle c.loop-low.low c.loop-low.high) [] ≡ name)
at_middle g c name is =
    let n = length-map c.args.rows.now g.T.HasName.name in
    let w = c.loop-low.invariant.within in (
      omega arith,
      name_at g.T.HasName.name c.args.rows.now _ _ _ (omega arith) c.index-rows-middle.is is,
    )

pub loop-low-preserved-in-Less : goal.loop-low-preserved-in-Less
loop-low-preserved-in-Less g c =
    let its = (at_middle g (goal.at.loop-low-preserved-in-Less g c).After-index-rows-middle _ c.name.ensures).1 in
    higher (map g.T.HasName.name c.args.rows.now) c.args.name.now c.loop-low.low c.loop-low.high
    (middle c.loop-low.low c.loop-low.high) c.requires.rise c.loop-low.invariant (omega arith)
    (ap (λ (x : List ℕ). slice_cmp nat_cmp x c.args.name.now) its ∙ sym c.cmp.ensures ∙ c.in-Less.is)

pub returns-in-Equal : goal.returns-in-Equal
returns-in-Equal g c =
    let n = length-map c.args.rows.now g.T.HasName.name in
    let its = at_middle g (goal.at.returns-in-Equal g c).After-index-rows-middle _ c.name.ensures in
    here (map g.T.HasName.name c.args.rows.now) c.args.name.now (middle c.loop-low.low c.loop-low.high)
    c.requires.rise (let l = its.0 in omega arith) (its.1 ∙ equal _ _ (sym c.cmp.ensures ∙ c.in-Equal.is))

pub loop-low-preserved : goal.loop-low-preserved
loop-low-preserved g c =
    let its = (at_middle g (goal.at.loop-low-preserved g c).After-index-rows-middle _ c.name.ensures).1 in
    lower (map g.T.HasName.name c.args.rows.now) c.args.name.now c.loop-low.low c.loop-low.high
    (middle c.loop-low.low c.loop-low.high) c.requires.rise c.loop-low.invariant (omega arith)
    (ap (λ (x : List ℕ). slice_cmp nat_cmp x c.args.name.now) its ∙ sym c.cmp.ensures ∙ c.in-Greater.is)

pub returns : goal.returns
returns g c = nowhere (map g.T.HasName.name c.args.rows.now) c.args.name.now
    (all_other _ _ c.loop-low.low c.loop-low.high c.loop-low.invariant c.loop-low-test.false)
