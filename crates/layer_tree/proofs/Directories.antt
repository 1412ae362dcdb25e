-- Of two layers the upper one removes only what it has a marker for, or has as something other than a directory: what the lower one has is
-- shown elsewhere (kept_below), and all of the upper one is (kept_above).
use Rattle.std.proofs.Common.{ℕ, inl, inr, List, [], ◌∷◌}
use Rattle.romfs_format.specs.Chains.{Has}
use Rattle.stack_model.specs.Stack.{Path, IsPlain, IsIn, CutsIn, Cuts, Shows}
use Rattle.layer_tree.specs.Merging.{IsUnremoved}

uncut : (a : List ℕ) (path : Path) → IsUnremoved a path → ¬ Cuts a path
uncut a path u (p, (q, y, rest, e, c)) = by c
  where
    by : CutsIn a q y → ⊥
    by (d, inl m) = (u.nowhere q y rest e).0 m
    by (d, inr (inl m)) = (u.nowhere q y rest e).1 m
    by (d, inr (inr m)) = (u.nowhere q y rest e).2 m

-- what the lower layer has is shown if the upper one neither has nor removes it
pub kept_below : (low high : List ℕ) (path : Path) (h : ℕ) → IsPlain path → Has low path h → ¬ IsIn high path
    → IsUnremoved high path → Shows (low ∷ high ∷ []) path 0 h
kept_below low high path h p has out u = (p, (has, ((out, uncut high path u), tt)))

-- all plain paths of the upper layer are shown
pub kept_above : (low high : List ℕ) (path : Path) (h : ℕ) → IsPlain path → Has high path h → Shows (low ∷ high ∷ []) path 1 h
kept_above low high path h p has = (p, (has, tt))
