-- linux/fuse.h, nlookup: lookups that are given and taken, summed by node.
use Rattle.std.specs.Prelude.{◌≡◌, ◌≢◌, ℕ, ◌<◌, ◌⊎◌, pos, List, [], ◌∷◌, ◌++◌}
use Rattle.std.specs.List.{AllByRecursion}
use Rattle.reply_model.specs.declared.moves.Move.{Move}
use Rattle.reply_model.specs.Moves.{balance}

-- each node is below those that come after it
abbrev pub AreAscending : List Move → Type 0
AreAscending [] = Unit {0}
AreAscending (m ∷ rest) = AllByRecursion (λ n. m.node < n.node) rest × AreAscending rest

-- the sums of some moves by node: ascending, each node once with its sum, and no sum of 0
pub record AreSums (moves sums : List Move) : Type 0 where
  pub ascending : AreAscending sums
  pub each : (node : ℕ) → balance node sums ≡ balance node moves
  pub none_zero : AllByRecursion (λ m. m.amount ≢ pos 0) sums

-- a sum is appended, unless it is 0
abbrev pub PutsSum : List Move → List Move → Move → Type 0
PutsSum before after sum =
    ((sum.amount ≡ pos 0) × (after ≡ before))
    ⊎ ((sum.amount ≢ pos 0) × (after ≡ before ++ sum ∷ []))
