-- A name of at most 22 bytes, followed by zeros.
use Rattle.std.specs.Prelude.{◌≡◌, ℕ, ◌-◌, ◌≤◌, List, ◌++◌, length, replicate}

-- the bytes of a name of at most 22, padded with zeros to 22
abbrev pub IsPadded : List ℕ → List ℕ → Type 0
IsPadded name padded = (length name ≤ 22) × (padded ≡ name ++ replicate (22 - length name) 0)
