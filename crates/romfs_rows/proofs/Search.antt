-- Where the row of an offset is: nowhere if no row has it (nowhere), otherwise at the first that
-- has it (here). The first row that is not below the offset therefore decides, among rows that rise
-- (found, another, past). The row for an offset is the one at its position (row_at_position).
use Rattle.std.proofs.Common.{◌-◌, ◌≡◌, ◌≢◌, ◌∙◌, sym, ap, ℕ, ◌<◌, ◌≤◌, inl, inr, true, false, ltb, Bool, ◌==◌, List, [], ◌∷◌, length, get_or, cond, Some, None, arith, refl}
use Rattle.std.specs.Prelude.{find, slice_get}
use Rattle.std.specs.List.{position_or_len}
use Rattle.std.specs.List.Sorted.{IsNonDecreasingBy, IsPartitionPoint}
use Rattle.std.specs.Option.{option_and_then}
use Rattle.std.proofs.lemmas.Bool.{cases_lt, eq-eqb, le-ltb, lt-ltb, ltb-false, ltb-true, ne_eqb}
use Rattle.std.proofs.lemmas.List.{get_or_default}
use Rattle.std.proofs.lemmas.List.Folds.{find_at}
use Rattle.std.proofs.lemmas.List.Sums.{position_or_len_is}
use Rattle.std.proofs.lemmas.Option.{slice_get_past}
use Rattle.romfs_format.specs.declared.attribute_row.AttributeRow.{AttributeRow}
use Rattle.romfs_format.specs.Trailer.{row_at}
use Rattle.romfs_rows.specs.Order.{position_at}

-- whether a row is for an offset
abbrev is_for : ℕ → AttributeRow → Bool
is_for p x = x.place == p

-- any row
nothing : AttributeRow
nothing = record { place = 0; mode = 0; uid = 0; gid = 0; seconds = 0; nanoseconds = 0 }

module _ (xs : List AttributeRow) (p : ℕ) where
  -- if no row has the offset, it has no position
  pub nowhere : ((k : ℕ) (d : AttributeRow) → k < length xs → (get_or xs k d).place ≢ p) → None ≡ position_at xs p
  nowhere h =
      let e : position_or_len (is_for p) xs ≡ length xs =
      position_or_len_is (is_for p) xs (length xs) nothing (omega arith) (λ k l. ne_eqb _ _ (h k nothing l)) (λ l. absurd (omega arith)) in
      rw (e, le-ltb (length xs) (length xs) (omega arith)) refl

  -- the first row that has the offset is the one for it
  pub here : (i : ℕ) (d : AttributeRow) → i < length xs → ((k : ℕ) (e : AttributeRow) → k < i → (get_or xs k e).place ≢ p)
      → (get_or xs i d).place ≡ p → Some i ≡ position_at xs p
  here i d l before e =
      let f : position_or_len (is_for p) xs ≡ i =
      position_or_len_is (is_for p) xs i d (omega arith) (λ k m. ne_eqb _ _ (before k d m)) (λ _. eq-eqb _ _ e) in
      rw (f, lt-ltb i (length xs) l) refl

  -- the row for an offset is the first that has it
  finds : (ys : List AttributeRow) → row_at ys p ≡ find (is_for p) ys
  finds [] = refl
  finds (y ∷ ys) = ap (λ r. cond (is_for p y) (Some y) r) (finds ys)

  -- the row for an offset is the one at its position
  pub row_at_position : row_at xs p ≡ option_and_then (slice_get xs) (position_at xs p)
  row_at_position = finds xs ∙ find_at (is_for p) xs ∙ elim (cases_lt (position_or_len (is_for p) xs) (length xs)) [
    | inl l ↦ rw (lt-ltb _ _ l) refl
    | inr l ↦ rw (le-ltb _ _ l) (slice_get_past xs _ l)
  ]

module _ (xs : List AttributeRow) (p i : ℕ) (rising : IsNonDecreasingBy (λ x. x.place) xs)
    (split : IsPartitionPoint (λ x. ltb x.place p ≡ true) (λ x. ltb x.place p ≡ false) xs i) where
  below : (k : ℕ) (d : AttributeRow) → k < i → (get_or xs k d).place ≢ p
  below k d l e = let b = ltb-true _ _ (split.0 k d (omega arith) l) in omega arith

  -- the row there is the one, if it has the offset
  pub found : (x : AttributeRow) → i < length xs → ((d : AttributeRow) → x ≡ get_or xs i d) → x.place ≡ p → Some i ≡ position_at xs p
  found x l at e = here xs p i x l below (ap (λ (y : AttributeRow). y.place) (sym (at x)) ∙ e)

  -- if it has another there is none
  pub another : (x : AttributeRow) → i < length xs → ((d : AttributeRow) → x ≡ get_or xs i d) → x.place ≢ p → None ≡ position_at xs p
  another x l at n = nowhere xs p none
    where
      none : (k : ℕ) (d : AttributeRow) → k < length xs → (get_or xs k d).place ≢ p
      none k d m e = elim (cases_lt k i) [
        | inl o ↦ below k d o e
        | inr o ↦ (
            let r = rising i k d o m in
            let b = ltb-false _ _ (split.1 i d (omega arith) l) in
            let q = ap (λ (y : AttributeRow). y.place) (at d) in
            n (omega arith))
      ]

  -- nor is there one if all rows are below
  pub past : length xs ≤ i → None ≡ position_at xs p
  past l = nowhere xs p (λ k d m. below k d (omega arith))

-- if the one before is below the offset, a row that has it is the first that has it
pub first : (xs : List AttributeRow) (p i : ℕ) (d : AttributeRow) → IsNonDecreasingBy (λ x. x.place) xs → i < length xs
    → (0 < i → (get_or xs (i - 1) d).place < p) → (get_or xs i d).place ≡ p → Some i ≡ position_at xs p
first xs p i d rising l below e = here xs p i d l before e
  where
    before : (k : ℕ) (b : AttributeRow) → k < i → (get_or xs k b).place ≢ p
    before k b m q =
        let r = rising k (i - 1) b (omega arith) (omega arith) in
        let s = below (omega arith) in
        let t : get_or xs (i - 1) b ≡ get_or xs (i - 1) d = get_or_default xs (i - 1) b d (omega arith) in
        (let u = ap (λ (y : AttributeRow). y.place) t in omega arith)
