-- Replies one after another, and the effect of calls on them.
use Rattle.std.specs.Prelude.{◌≡◌, ◌⊎◌, ℕ, ◌+◌, ◌<◌, ◌≤◌, Bool, true, List, ◌++◌, length, if◌then◌else◌, Result, OnOk, OnErr}

-- the bytes of replies, the total room, and the length of the vector
pub record Filled : Type 0 where
  pub items : List ℕ
  pub room : ℕ
  pub standing : ℕ

-- the call appends exactly these bytes; or, if there is no room and memory is refused, nothing
abbrev pub Appends : {E : Type 0} → Result (Unit {0}) E → Filled → Filled → List ℕ → Type 0
Appends result before after bytes =
    OnOk result (after.items ≡ before.items ++ bytes)
    × OnErr result (after.items ≡ before.items)
    × OnErr result (before.room < length before.items + length bytes)
    × (before.room ≤ after.room)

-- if true, the call appends exactly these bytes, and there are at most this many then; otherwise it
-- appends nothing
pub record PutsUpTo (most : ℕ) (told : Bool) (before after : Filled) (bytes : List ℕ) : Type 0 where
  pub items : after.items ≡ (if told then before.items ++ bytes else before.items)
  pub few : told ≡ true → length after.items ≤ most
  pub room : before.room ≤ after.room

-- with these bytes there would be more than this many, or there is no room for this many bytes more
abbrev pub IsTooMuch : ℕ → ℕ → Filled → List ℕ → Type 0
IsTooMuch most more before bytes =
    (most < length before.items + length bytes) ⊎ (before.room < length before.items + more)

-- the call makes room for this many more bytes; or, if there is none for them, it may fail
abbrev pub MakesRoom : {E : Type 0} → Result (Unit {0}) E → Filled → Filled → ℕ → Type 0
MakesRoom result before after count =
    (after.items ≡ before.items) × OnOk result (length before.items + count ≤ after.room)
    × OnErr result (before.room < length before.items + count)
    × (before.room ≤ after.room)
