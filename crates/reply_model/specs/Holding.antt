-- pread(2): sources that show bytes, and lack none of them.
use Rattle.std.specs.Prelude.{ℕ, ◌≤◌, List, [], ◌∷◌, length, ⊤}
use Rattle.devices.specs.Sources.{Source, Shows, MayLack}

-- the source shows these bytes, and neither fails nor ends before they do
pub record Holds (source : Source) (xs : List ℕ) : Type 0 where
  pub shows : Shows source xs
  pub whole : (end : ℕ) → end ≤ length xs → MayLack source end → ⊥

-- each of these sources holds the bytes at its position
abbrev pub AreHeldBy : List Source → List (List ℕ) → Type 0
AreHeldBy [] [] = ⊤
AreHeldBy (source ∷ sources) (xs ∷ images) = Holds source xs × AreHeldBy sources images
AreHeldBy [] (xs ∷ images) = ⊥
AreHeldBy (source ∷ sources) [] = ⊥
