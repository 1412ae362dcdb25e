use Rattle.std.proofs.Common.{◌≡◌, ◌+◌, ◌^◌, ℕ, List, length, sum}
use Rattle.strata_images.proofs.images.are_small.Given as goal

-- the sizes so far, and what they leave of the most
abbrev pub invariant-loop-path : goal.invariant-loop-path
invariant-loop-path g l = (sizes : List ℕ) × (length sizes ≡ l.path-index) × (sum sizes + l.rest ≡ 2 ^ 25)
