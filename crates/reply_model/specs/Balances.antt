-- linux/fuse.h, nlookup of FUSE_LOOKUP, FUSE_READDIRPLUS, FUSE_FORGET and FUSE_BATCH_FORGET:
-- lookups given and taken.
use Rattle.std.specs.Prelude.{◌≡◌, ℕ, ◌+◌, ◌*◌, ◌<◌, ◌≤◌, ◌^◌, ℤ, pos, ◌+ℤ◌, unsigned_abs, List, [], ◌∷◌, length, get_or}
use Rattle.reply_model.specs.declared.moves.Move.{Move}
use Rattle.reply_model.specs.Moves.{balance}

-- how many lookups are given and taken in all
abbrev pub weight : List Move → ℕ
weight [] = 0
weight (m ∷ moves) = unsigned_abs m.amount + weight moves

-- moves have at most 2^64 lookups for each of this many bytes
abbrev pub IsLight : List Move → ℕ → Type 0
IsLight moves bytes = weight moves ≤ 2 ^ 64 * bytes

-- the balance at an index; that of node n is at index n - 1
abbrev pub balance_at : List ℤ → ℕ → ℤ
balance_at balances place = get_or balances place (pos 0)

-- each node's balance rose by what the moves give it, minus what they take
pub record IsMoved (moves : List Move) (old new : List ℤ) : Type 0 where
  pub same : length new ≡ length old
  pub each : (i : ℕ) → i < length old → balance_at new i ≡ balance_at old i +ℤ balance (i + 1) moves

-- no balance is further from 0 than the limit
pub record AreWithin (limit : ℕ) (balances : List ℤ) : Type 0 where
  pub each : (i : ℕ) → i < length balances → unsigned_abs (balance_at balances i) ≤ limit
