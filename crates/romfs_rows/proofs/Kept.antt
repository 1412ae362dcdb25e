-- The first rows of a trailer as a list: how many there are (first_length), which one is at a
-- position (first_get), and that they are in order if they are right and few (ordered).
use Rattle.std.proofs.Common.{◌≡◌, ◌∙◌, ℕ, zero, suc, ◌^◌, ◌<◌, ◌≤◌, inl, inr, List, [], ◌∷◌, length, get_or, arith, refl}
use Rattle.std.proofs.lemmas.Bool.{cases_order}
use Rattle.std.proofs.lemmas.List.{length-append, get_or_append_left, get_or_push}
use Rattle.romfs_format.specs.declared.attribute_row.AttributeRow.{AttributeRow}
use Rattle.romfs_format.specs.Trailer.{row_of, first_rows, AreRows}
use Rattle.romfs_rows.specs.Order.{AreOrdered}

pub first_length : (t : List ℕ) (n : ℕ) → length (first_rows t n) ≡ n
first_length t zero = refl
first_length t (suc n) = rw (length-append (first_rows t n) (row_of t n ∷ []), first_length t n) (omega arith)

first_get : (t : List ℕ) (n i : ℕ) (d : AttributeRow) → i < n → get_or (first_rows t n) i d ≡ row_of t i
first_get t zero i d l = absurd (omega arith)
first_get t (suc n) i d l = elim (cases_order i n) [
  | inl e ↦ rw e (get_or_push (first_rows t n) (row_of t n) d n (first_length t n))
  | inr (inl m) ↦
      get_or_append_left (first_rows t n) (row_of t n ∷ []) d i (rw (first_length t n) m)
      ∙ first_get t n i d m
  | inr (inr m) ↦ absurd (omega arith)
]

module _ (full : ℕ) (t : List ℕ) (n : ℕ) (are : AreRows full t n) (few : length (first_rows t n) < 2 ^ 32) where
  rising : (i j : ℕ) (d : AttributeRow) → i ≤ j → j < length (first_rows t n)
      → (get_or (first_rows t n) i d).place ≤ (get_or (first_rows t n) j d).place
  rising i j d l m =
      let k : j < n = rw (← first_length t n) m in
      rw (first_get t n i d (omega arith), first_get t n j d k) (elim (cases_order i j) [
        | inl e ↦ rw e (omega arith)
        | inr (inl o) ↦ (let r = are.rising i j o k in omega arith)
        | inr (inr o) ↦ absurd (omega arith)
      ])

  -- the first rows of a trailer are in order, if they are right and few
  pub ordered : AreOrdered (first_rows t n)
  ordered = record {
    rising = rising;
    modes = λ k d l.
        let m : k < n = rw (← first_length t n) l in
        rw (first_get t n k d m) (are.each k m).mode;
    few = few;
  }
