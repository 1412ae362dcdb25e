-- One tree laid on another: at each path the values of both.
use Rattle.std.specs.Prelude.{◌≡◌, ℕ, List, [], ◌∷◌, ◌++◌, Option, Some, None}
use Rattle.layer_paths.specs.Rows.{Subtree, spread, whole, at_path, IsRising, IsForest}

-- the value at a path if one tree is laid on another: f of both values if both have one, otherwise
-- the value of the one that has it
abbrev pub laid_at : {T : Type 0} → (T → T → T) → Option T → Option T → Option T
laid_at f low None = low
laid_at f None (Some h) = Some h
laid_at f (Some l) (Some h) = Some (f l h)

-- the branch b is high laid on low
pub record IsLaid {T : Type 0} (f : T → T → T) (low high b : Subtree T) : Type 0 where
  pub name : b.name ≡ high.name
  pub rising : IsRising b
  pub at : (path : List (List ℕ))
      → at_path (whole b) path ≡ laid_at f (at_path (whole low) path) (at_path (whole high) path)

-- the branches of a directory, laid on those of another one
pub record AreLaid {T : Type 0} (f : T → T → T) (lows highs out : List (Subtree T)) : Type 0 where
  pub forest : IsForest out
  pub at : (n : List ℕ) (path : List (List ℕ)) → at_path (spread out) (n ∷ path)
      ≡ laid_at f (at_path (spread lows) (n ∷ path)) (at_path (spread highs) (n ∷ path))

-- the first branch is moved from one list to the end of another one
pub record Passes {T : Type 0} (from from' to to' : List (Subtree T)) : Type 0 where
  pub first : Subtree T
  pub left : from ≡ first ∷ from'
  pub added : to' ≡ to ++ first ∷ []

-- the same, with these children instead of the branch's own
pub record PassesWith {T : Type 0} (children from from' to to' : List (Subtree T))
    : Type 0 where
  pub first : Subtree T
  pub left : from ≡ first ∷ from'
  pub added : to'
      ≡ to ++ record { name = first.name; value = first.value; below = spread children } ∷ []

-- the first branch is removed from a list
pub record DropsFirst {T : Type 0} (from from' : List (Subtree T)) : Type 0 where
  pub first : Subtree T
  pub left : from ≡ first ∷ from'

-- the children are taken from the first branch of a list
pub record TakesChildren {T : Type 0} (from from' children : List (Subtree T)) : Type 0 where
  pub first : Subtree T
  pub rest : List (Subtree T)
  pub was : from ≡ first ∷ rest
  pub left : from' ≡ record { name = first.name; value = first.value; below = [] } ∷ rest
  pub below : first.below ≡ spread children
  pub forest : IsForest children

-- the first branches are removed from two lists, and both is the high one laid on the low one
pub record CoversFirst {T : Type 0} (f : T → T → T)
    (lows lows' highs highs' : List (Subtree T)) (both : Subtree T) : Type 0 where
  pub low : Subtree T
  pub high : Subtree T
  pub low_left : lows ≡ low ∷ lows'
  pub high_left : highs ≡ high ∷ highs'
  pub laid : IsLaid f low high both
