-- Keys that fall into slots.
use Rattle.std.specs.Prelude.{◌≡◌, ℕ, ◌+◌, ◌*◌, ◌/◌, ◌%◌, ◌^◌, ◌<◌, List, length, get_or, set, slice_index, Bool, true, false, nat_lt, if◌then◌else◌}
use Rattle.romfs_sets.specs.Once.{IsOnce}

-- the slot of a key among this many, unless it is itself
abbrev pub mixed_slot : ℕ → ℕ → ℕ
mixed_slot key slots =
    (key % 2 ^ 32 * 0x9e3779b1 + key / 2 ^ 32 * 0x85eb) % 2 ^ 32 * slots / 2 ^ 32

-- the slot of a key among this many: small multiples of 16 have slots of their own
abbrev pub slot_of : ℕ → ℕ → ℕ
slot_of key slots = if nat_lt (key / 16) slots then key / 16 else mixed_slot key slots

-- a key falls into a slot: now some key fell into it, and more than one if one did before
pub record Falls (some crowded : List Bool) (slot : ℕ) (some' crowded' : List Bool) : Type 0 where
  pub fell : some' ≡ set some slot true
  pub again : get_or some slot false ≡ true → crowded' ≡ set crowded slot true
  pub first : get_or some slot false ≡ false → crowded' ≡ crowded

-- no more than one key fell into this key's slot
abbrev pub IsAlone : List Bool → ℕ → Type 0
IsAlone crowded key = get_or crowded (slot_of key (length crowded)) true ≡ false

-- the slots into which more than one of these keys fell
pub record AreCrowded (keys : List ℕ) (crowded : List Bool) : Type 0 where
  pub once : (k : ℕ) → k < length keys → IsAlone crowded (slice_index keys k) → IsOnce keys k
