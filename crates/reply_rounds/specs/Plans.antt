-- The range of a plan.
use Rattle.std.specs.Prelude.{◌≡◌, ℕ, ◌≤◌, Option, MatchOption}
use Rattle.draw_board.specs.declared.limits.TheConstants.{MAX_BATCH, MAX_WORKERS}
use Rattle.reply_rounds.specs.declared.plan.Plan.{Plan}

-- there are 1 to 64 workers, and 1 to 256 requests in a batch
abbrev pub IsInRange : ℕ → ℕ → Type 0
IsInRange workers batch =
    ((1 ≤ workers) × (workers ≤ MAX_WORKERS)) × (1 ≤ batch) × (batch ≤ MAX_BATCH)

-- there is a plan exactly for these numbers, and it has them
abbrev pub IsPlan : ℕ → ℕ → Option Plan → Type 0
IsPlan workers batch result =
    MatchOption result (¬ IsInRange workers batch)
    (λ plan. IsInRange workers batch × (plan.workers ≡ workers) × (plan.batch ≡ batch))
