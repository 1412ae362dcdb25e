-- A pass over rows: the first n are right and rise, and the next may have no offset below `least`
-- (AreSoFar). A right row with such an offset keeps it so (more); with any other the rows are not
-- right (fallen, wrong).
use Rattle.std.proofs.Common.{◌≡◌, ℕ, ◌+◌, ◌<◌, ◌≤◌, inl, inr, List, arith, refl}
use Rattle.std.proofs.lemmas.Bool.{cases_order}
use Rattle.romfs_format.specs.Trailer.{row_of, IsRow, AreRows}

pub record AreSoFar (full : ℕ) (t : List ℕ) (n least : ℕ) : Type 0 where
  pub rows : AreRows full t n
  pub below : (i : ℕ) → i < n → (row_of t i).place < least
  pub met : 0 < least → (i : ℕ) × (i < n) × ((row_of t i).place + 1 ≡ least)

module _ (full : ℕ) (t : List ℕ) where
  -- no rows are right
  pub none : AreSoFar full t 0 0
  none = record {
    rows = record { each = λ i l. absurd (omega arith); rising = λ i j l m. absurd (omega arith) };
    below = λ i l. absurd (omega arith);
    met = λ l. absurd (omega arith);
  }

  module _ (n least : ℕ) (are : AreSoFar full t n least) where
    each : IsRow full t n → (i : ℕ) → i < n + 1 → IsRow full t i
    each x i l = elim (cases_order i n) [
      | inl e ↦ rw e x
      | inr (inl m) ↦ are.rows.each i m
      | inr (inr m) ↦ absurd (omega arith)
    ]

    rise : least ≤ (row_of t n).place → (i j : ℕ) → i < j → j < n + 1 → (row_of t i).place < (row_of t j).place
    rise high i j l m = elim (cases_order j n) [
      | inl e ↦ rw e (let b = are.below i (omega arith) in omega arith)
      | inr (inl o) ↦ are.rows.rising i j l o
      | inr (inr o) ↦ absurd (omega arith)
    ]

    lower : least ≤ (row_of t n).place → (i : ℕ) → i < n + 1 → (row_of t i).place < (row_of t n).place + 1
    lower high i l = elim (cases_order i n) [
      | inl e ↦ rw e (omega arith)
      | inr (inl m) ↦ (let b = are.below i m in omega arith)
      | inr (inr m) ↦ absurd (omega arith)
    ]

    -- one row more that is right and rises
    pub more : least ≤ (row_of t n).place → IsRow full t n → AreSoFar full t (n + 1) ((row_of t n).place + 1)
    more high x = record {
      rows = record { each = each x; rising = rise high };
      below = lower high;
      met = λ l. (n, (let o : n < n + 1 = omega arith in o), refl);
    }

    -- a row that does not rise
    pub fallen : (count : ℕ) → n < count → (row_of t n).place < least → ¬ AreRows full t count
    fallen count within low rows =
        let m = are.met (omega arith) in
        let i = m.1 in
        let e = m.2 in
        let r = rows.rising m.0 n i within in
        omega arith

-- a row that is not right
pub wrong : (full : ℕ) (t : List ℕ) (n count : ℕ) → n < count → ¬ IsRow full t n → ¬ AreRows full t count
wrong full t n count within bad rows = bad (rows.each n within)
