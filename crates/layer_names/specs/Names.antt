-- Names in order, and the place of a name.
use Rattle.std.specs.Prelude.{◌≡◌, ℕ, List, position, nat_eq, Option}
use Rattle.std.specs.declared.cmp.Ordering.TheVariants.{Less}
use Rattle.std.specs.Cmp.Lexicographic.{slice_cmp, pointwise}
use Rattle.std.specs.List.{AllPairs}
use Rattle.std.specs.Ordering.{nat_cmp}

-- each name comes before those after it, by bytes
abbrev pub Rise : List (List ℕ) → Type 0
Rise names = AllPairs (λ x y. slice_cmp nat_cmp x y ≡ Less) names

-- the first place of this name
abbrev pub place_of : List ℕ → List (List ℕ) → Option ℕ
place_of name names = position (pointwise nat_eq name) names
