-- Names that rise are found by binary search: what comes before a name that is less is less (less_before),
-- and what comes after one that is greater is greater (greater_after); and another name decides nothing,
-- at the front of a run (skip) as at its end (chop).
use Rattle.std.proofs.Common.{◌≡◌, ◌∙◌, sym, ap, ℕ, zero, suc, ◌+◌, ◌-◌, ◌*◌, ◌<◌, ◌≤◌, inl, inr, List, [], ◌∷◌, length, refl, arith}
use Rattle.std.specs.Prelude.{Bool, true, false, Option, Some, None, bytes_eq}
use Rattle.std.specs.declared.cmp.Ordering.{Ordering}
use Rattle.std.specs.declared.cmp.Ordering.TheVariants.{Less, Equal, Greater}
use Rattle.std.specs.Ordering.{nat_cmp, is_lt, is_eq, ordering_reverse}
use Rattle.std.specs.Cmp.Lexicographic.{slice_cmp}
use Rattle.std.proofs.lemmas.Bool.{cases_lt, cases_order, cases_Bool}
use Rattle.std.proofs.lemmas.Bool.Decides.{nat_tests}
use Rattle.std.proofs.lemmas.Cmp.{nat_list_cmp_total}
use Rattle.std.proofs.lemmas.Map.Text.{is_eq-slice_cmp}
use Rattle.romfs_format.specs.Extended.{Extended, names_rise, value_of}
use Rattle.romfs_format.specs.Part.{piece, attribute, attributes}
use Rattle.romfs_rows.specs.Runs.{rises_at}
use Rattle.romfs_rows.proofs.Runs.{run, run_step, run_ends, rise_step, rise_fails, rises_before}

-- how two names compare
abbrev cmp : List ℕ → List ℕ → Ordering
cmp = slice_cmp nat_cmp

is_less : (o : Ordering) → is_lt o ≡ true → o ≡ Less
is_less Less e = refl
is_less Equal e = absurd (cc)
is_less Greater e = absurd (cc)

pub less_differs : (a b : List ℕ) → cmp a b ≡ Less → bytes_eq a b ≡ false
less_differs a b e = sym (is_eq-slice_cmp a b) ∙ ap is_eq e

pub greater_differs : (a b : List ℕ) → cmp a b ≡ Greater → bytes_eq a b ≡ false
greater_differs a b e = sym (is_eq-slice_cmp a b) ∙ ap is_eq e

pub equal_same : (a b : List ℕ) → cmp a b ≡ Equal → bytes_eq a b ≡ true
equal_same a b e = sym (is_eq-slice_cmp a b) ∙ ap is_eq e

-- the value if the first attribute has another name, and if it has this one
value_behind : (n : List ℕ) (x : Extended) (xs : List Extended) → bytes_eq x.name n ≡ false → value_of n (x ∷ xs) ≡ value_of n xs
value_behind n x xs e = rw e refl

value_first : (n : List ℕ) (x : Extended) (xs : List Extended) → bytes_eq x.name n ≡ true → value_of n (x ∷ xs) ≡ Some x.value
value_first n x xs e = rw e refl

same_behind : (n : List ℕ) (x : Extended) (xs ys : List Extended) → value_of n xs ≡ value_of n ys
    → value_of n (x ∷ xs) ≡ value_of n (x ∷ ys)
same_behind n x xs ys e = elim (cases_Bool (bytes_eq x.name n)) [
  | inl t ↦ value_first n x xs t ∙ sym (value_first n x ys t)
  | inr f ↦ value_behind n x xs f ∙ e ∙ sym (value_behind n x ys f)
]

module _ (y : List ℕ) (n : List ℕ) where
  -- each attribute from i up to j has another name
  pub record Differ (i j : ℕ) : Type 0 where
    pub each : (k : ℕ) → i ≤ k → k < j → bytes_eq (piece y (2 * k)) n ≡ false

  skip_by : (end d i : ℕ) → d + i ≤ end → Differ i (d + i) → value_of n (run y end i) ≡ value_of n (run y end (d + i))
  skip_by end zero i l h = (let e : zero + i ≡ i = omega arith in rw e refl)
  skip_by end (suc d) i l h =
      let e : suc d + i ≡ d + i + 1 = omega arith in
      let before = skip_by end d i (omega arith) (record { each = λ k p q. h.each k p (omega arith) }) in
      let one = h.each (d + i) (omega arith) (omega arith) in
      rw e (before ∙ ap (value_of n) (run_step y end (d + i) (omega arith))
      ∙ value_behind n (attribute y (d + i)) (run y end (d + i + 1)) one)

  -- other names at the front decide nothing
  pub skip : (end i j : ℕ) → i ≤ j → j ≤ end → Differ i j → value_of n (run y end i) ≡ value_of n (run y end j)
  skip end i j l m h =
      let e : (j - i) + i ≡ j = omega arith in
      let s = skip_by end (j - i) i (omega arith) (rw e h) in
      rw e at s

  -- if all are other names there is no value
  pub none : (end i : ℕ) → i ≤ end → Differ i end → value_of n (run y end i) ≡ None
  none end i l h = skip end i end l (omega arith) h ∙ ap (value_of n) (run_ends y end end (omega arith))

  chop_by : (end high d i : ℕ) → d + i ≡ high → high ≤ end → Differ high end → value_of n (run y end i) ≡ value_of n (run y high i)
  chop_by end high zero i e l h =
      let s : i ≡ high = omega arith in
      let d : Differ i end = record { each = λ k p q. h.each k (omega arith) q } in
      none end i (omega arith) d ∙ sym (ap (value_of n) (run_ends y high i (omega arith)))
  chop_by end high (suc d) i e l h =
      let more = chop_by end high d (i + 1) (omega arith) l h in
      ap (value_of n) (run_step y end i (omega arith))
      ∙ same_behind n (attribute y i) (run y end (i + 1)) (run y high (i + 1)) more
      ∙ sym (ap (value_of n) (run_step y high i (omega arith)))

  -- other names at the end decide nothing
  pub chop : (end high i : ℕ) → i ≤ high → high ≤ end → Differ high end → value_of n (run y end i) ≡ value_of n (run y high i)
  chop end high i l m h = chop_by end high (high - i) i (omega arith) m h

  -- the value if the first of a run has this name
  pub first_found : (end i : ℕ) → i < end → cmp (piece y (2 * i)) n ≡ Equal → value_of n (run y end i) ≡ Some (piece y (2 * i + 1))
  first_found end i l e =
      ap (value_of n) (run_step y end i l)
      ∙ value_first n (attribute y i) (run y end (i + 1)) (equal_same (piece y (2 * i)) n e)

module _ (y : List ℕ) (first end : ℕ) (rise : names_rise (run y end first) ≡ true) where
  tail_rises : (i : ℕ) → i < end → names_rise (run y end i) ≡ true → (rises_at y end i ≡ true) × (names_rise (run y end (i + 1)) ≡ true)
  tail_rises i l e = elim (cases_Bool (rises_at y end i)) [
    | inl t ↦ (t, sym (rise_step y end i l t) ∙ e)
    | inr f ↦ absurd (let g = rise_fails y end i l f in cc)
  ]

  each_rises : (d : ℕ) → d + first < end → names_rise (run y end (d + first)) ≡ true
  each_rises zero l = (let e : zero + first ≡ first = omega arith in rw e rise)
  each_rises (suc d) l =
      let e : suc d + first ≡ d + first + 1 = omega arith in
      rw e (tail_rises (d + first) (omega arith) (each_rises d (omega arith))).1

  adjacent : (i : ℕ) → first ≤ i → i + 1 < end → cmp (piece y (2 * i)) (piece y (2 * (i + 1))) ≡ Less
  adjacent i l m =
      let e : (i - first) + first ≡ i = omega arith in
      let r = each_rises (i - first) (omega arith) in
      let s : names_rise (run y end i) ≡ true = rw e at r in
      is_less _ (sym (rises_before y end i m) ∙ (tail_rises i (omega arith) s).0)

  pairs_by : (d i : ℕ) → first ≤ i → d + i + 1 < end → cmp (piece y (2 * i)) (piece y (2 * (d + i + 1))) ≡ Less
  pairs_by zero i l m = (let e : zero + i ≡ i = omega arith in rw e (adjacent i l (omega arith)))
  pairs_by (suc d) i l m =
      let e : suc d + i ≡ d + i + 1 = omega arith in
      rw e (nat_list_cmp_total.trans (piece y (2 * i)) (piece y (2 * (d + i + 1))) (piece y (2 * (d + i + 1 + 1)))
      (pairs_by d i l (omega arith)) (adjacent (d + i + 1) (omega arith) (omega arith)))

  -- an earlier name comes before a later one
  pairs : (i j : ℕ) → first ≤ i → i < j → j < end → cmp (piece y (2 * i)) (piece y (2 * j)) ≡ Less
  pairs i j l m o =
      let e : (j - i - 1) + i + 1 ≡ j = omega arith in
      let p = pairs_by (j - i - 1) i l (omega arith) in
      rw e at p

  module _ (n : List ℕ) (middle : ℕ) (low : first ≤ middle) (high : middle < end) where
    -- if a name comes before the one sought, so do those before it
    pub less_before : cmp (piece y (2 * middle)) n ≡ Less → Differ y n first (middle + 1)
    less_before e = record {
      each = λ k l m. elim (cases_order k middle) [
        | inl s ↦ rw s (less_differs (piece y (2 * middle)) n e)
        | inr (inl o) ↦ less_differs (piece y (2 * k)) n
            (nat_list_cmp_total.trans (piece y (2 * k)) (piece y (2 * middle)) n (pairs k middle l o high) e)
        | inr (inr o) ↦ absurd (omega arith)
      ];
    }

    -- if a name comes after the one sought, so do those after it
    pub greater_after : cmp (piece y (2 * middle)) n ≡ Greater → Differ y n middle end
    greater_after e = record {
      each = λ k l m. elim (cases_order k middle) [
        | inl s ↦ rw s (greater_differs (piece y (2 * middle)) n e)
        | inr (inl o) ↦ absurd (omega arith)
        | inr (inr o) ↦ (
            let b : cmp n (piece y (2 * middle)) ≡ Less =
            nat_list_cmp_total.antisymm n (piece y (2 * middle)) ∙ ap ordering_reverse e in
            let t : cmp n (piece y (2 * k)) ≡ Less =
            nat_list_cmp_total.trans n (piece y (2 * middle)) (piece y (2 * k)) b (pairs middle k low o m) in
            greater_differs (piece y (2 * k)) n (nat_list_cmp_total.antisymm (piece y (2 * k)) n ∙ ap ordering_reverse t))
      ];
    }

    -- if a name is the one sought, those before it are others
    pub equal_before : cmp (piece y (2 * middle)) n ≡ Equal → Differ y n first middle
    equal_before e = record {
      each = λ k l m. less_differs (piece y (2 * k)) n (
          let p = pairs k middle l m high in
          let c = nat_list_cmp_total.congr (piece y (2 * middle)) n (piece y (2 * k)) e in
          let g : cmp n (piece y (2 * k)) ≡ Greater =
          sym c ∙ nat_list_cmp_total.antisymm (piece y (2 * middle)) (piece y (2 * k)) ∙ ap ordering_reverse p in
          nat_list_cmp_total.antisymm (piece y (2 * k)) n ∙ ap ordering_reverse g);
    }
