-- The ends of hard links, as far as they are known.
use Rattle.std.specs.Prelude.{◌≡◌, ℕ, List, Some}
use Rattle.std.specs.BTreeMap.{BTreeMap, get}
use Rattle.std.specs.Ordering.{nat_cmp}
use Rattle.romfs_format.specs.Links.{IsFinal}

-- each header that is known has the end of its chain of hard links
pub record AreEnds (a : List ℕ) (known : BTreeMap ℕ ℕ) : Type 0 where
  pub each : (h e : ℕ) → get nat_cmp known h ≡ Some e → IsFinal a h e
