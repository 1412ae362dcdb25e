-- The names of headers, and classes of their numbers by them.
use Rattle.std.specs.Prelude.{◌≡◌, ℕ, ◌==◌, ◌<◌, List, length, get_or, slice_index, Option, Some, None, Bool, true, false, if◌then◌else◌}
use Rattle.romfs_format.specs.Fields.{root, name, is_dot_name}
use Rattle.romfs_sets.specs.Names.{name_hash, IsItsAlone, AreClasses, AreNamesApart}

-- the name, unless it is . or ..
abbrev pub unless_dotted : Option (List ℕ) → Option (List ℕ)
unless_dotted None = None
unless_dotted (Some n) = if is_dot_name n then None else Some n

-- the name that a header has wherever it is a member: none for the root's
abbrev pub kept_name : List ℕ → ℕ → Option (List ℕ)
kept_name a h = if h == root a then None else unless_dotted (name a h)

-- the name of the header that has this number
abbrev pub kept_names : List ℕ → List ℕ → ℕ → Option (List ℕ)
kept_names a heads i = kept_name a (get_or heads i 0)

-- the hashes of names, for the numbers below n that have one
pub record AreNameHashes (name : ℕ → Option (List ℕ)) (n : ℕ) (hashes : List ℕ) : Type 0 where
  pub level : length hashes ≡ n
  pub each : (k : ℕ) (q : List ℕ) → k < n → name k ≡ Some q → slice_index hashes k ≡ name_hash q

-- a marked number with a name is the only one with that name
abbrev pub HaveTheirsAlone : (ℕ → Option (List ℕ)) → ℕ → List Bool → Type 0
HaveTheirsAlone name n told =
    (k : ℕ) (q : List ℕ) → k < n → get_or told k false ≡ true → name k ≡ Some q
    → IsItsAlone name n k

-- the classes of headers by their names
abbrev pub AreClassesOf : List ℕ → List ℕ → List ℕ → Type 0
AreClassesOf a heads class = AreClasses (kept_names a heads) (length heads) class

-- no two headers have the same name
abbrev pub HaveNamesApart : List ℕ → List ℕ → Type 0
HaveNamesApart a heads = AreNamesApart (kept_names a heads) (length heads)
