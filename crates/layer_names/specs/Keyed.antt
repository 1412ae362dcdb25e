-- What the keys of a directory's names say about them.
use Rattle.std.specs.Prelude.{◌≡◌, ◌≢◌, ℕ, ◌≤◌, ◌<◌, List, [], ◌++◌, length, map, take, drop, slice_index, All}
use Rattle.std.specs.List.{slice_index_or, AllWithin}
use Rattle.layer_names.specs.Names.{Rise}
use Rattle.layer_names.specs.Keys.{key, AreBytes}

-- two names share no more bytes at their fronts: if both continue, they differ
pub record IsMost (shared : ℕ) (x y : List ℕ) : Type 0 where
  pub differ : shared < length x → shared < length y → slice_index x shared ≢ slice_index y shared

-- the first name, and no bytes if there is none
abbrev pub first_of : List (List ℕ) → List ℕ
first_of names = slice_index_or names 0 []

-- the first name has this many bytes, and each name begins with them
pub record ShareFront (shared : ℕ) (names : List (List ℕ)) : Type 0 where
  pub long : shared ≤ length (first_of names)
  pub same : All (λ name. take shared name ≡ take shared (first_of names)) names

-- the names come in order and share a front, and each key is made from the eight bytes after it
pub record AreKeyed (shared : ℕ) (keys : List ℕ) (names : List (List ℕ)) : Type 0 where
  pub rise : Rise names
  pub bytes : All AreBytes names
  pub front : ShareFront shared names
  pub made : keys ≡ map (λ name. key 8 (drop shared name)) names

-- the keys of these names are added at the end
pub record AddsKeys (shared : ℕ) (names : List (List ℕ)) (old new : List ℕ) : Type 0 where
  pub keys : List ℕ
  pub is : new ≡ old ++ keys
  pub keyed : AreKeyed shared keys names

-- the name is at none of the places that were left out
pub record Narrows (names : List (List ℕ)) (name : List ℕ) (low high : ℕ) : Type 0 where
  pub within : high ≤ length names
  pub before : AllWithin (λ its. its ≢ name) names 0 low
  pub after : AllWithin (λ its. its ≢ name) names high (length names)
