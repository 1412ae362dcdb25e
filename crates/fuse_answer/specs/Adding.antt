-- The effect of calls that add to balances the lookups that rows of a listing give.
use Rattle.std.specs.Prelude.{ℕ, ◌-◌, ◌+◌, ◌^◌, ℤ, List}
use Rattle.reply_model.specs.Balances.{AreWithin, IsMoved}
use Rattle.fuse_answer.specs.declared.listing.Listing.{Listing}
use Rattle.fuse_answer.specs.Listings.{moves_before}

-- if balances included the lookups of the rows before one index, they now include those of the rows
-- before another; and each row moves a balance by at most one
pub record AddsGiven {A : Type 0} (l : Listing A) (from until : ℕ)
    (before after : List ℤ) : Type 0 where
  pub rows : (first : List ℤ) → IsMoved (moves_before l from) first before
      → IsMoved (moves_before l until) first after
  pub within : AreWithin (2 ^ 123 + (until - l.from)) after
