-- The place of a name among names that rise. `higher` and `lower` are the steps of a search, which leave out the half below or above;
-- `here` and `nowhere` say what its end means.
use Rattle.std.proofs.Common.{◌≡◌, ◌≢◌, ◌∙◌, sym, ap, ℕ, ◌+◌, ◌<◌, ◌≤◌, inl, inr, List, [], length, Some, None, refl, arith, true, false, All}
use Rattle.std.specs.Cmp.Lexicographic.{slice_cmp, pointwise}
use Rattle.std.specs.List.{slice_index_or, position_or_len, AllWithin}
use Rattle.std.specs.Ordering.{nat_cmp, is_eq, ordering_reverse}
use Rattle.std.specs.Prelude.{nat_eq}
use Rattle.std.specs.declared.cmp.Ordering.TheVariants.{Less, Equal, Greater}
use Rattle.std.proofs.lemmas.Bool.{cases_order, false_from_ne_true, lt-ltb, le-ltb}
use Rattle.std.proofs.lemmas.Cmp.{nat_list_cmp_total, tied_itself}
use Rattle.std.proofs.lemmas.List.{get_or_default}
use Rattle.std.proofs.lemmas.List.Sums.{position_or_len_is}
use Rattle.std.proofs.lemmas.Map.Text.{is_eq-slice_cmp}
use Rattle.std.proofs.lemmas.Slice.Eq.{bytes_eq-Decides}
use Rattle.layer_names.specs.Names.{Rise, place_of}
use Rattle.layer_names.specs.Keyed.{Narrows}

-- a name that is less is another
pub below : (x y : List ℕ) → slice_cmp nat_cmp x y ≡ Less → x ≢ y
below x y c e =
    let l : slice_cmp nat_cmp y y ≡ Less = rw e at c in
    let t = tied_itself nat_list_cmp_total y in
    let z : Less ≡ Equal = sym l ∙ t in cc

-- names that compare equal are the same
pub equal : (x y : List ℕ) → slice_cmp nat_cmp x y ≡ Equal → x ≡ y
equal x y c = (bytes_eq-Decides x y).0 (sym (is_eq-slice_cmp x y) ∙ ap is_eq c)

module _ (names : List (List ℕ)) (name : List ℕ) where
  abbrev IsOther : List ℕ → Type 0
  IsOther its = its ≢ name

  fails : (its : List ℕ) → its ≢ name → pointwise nat_eq name its ≡ false
  fails its other = false_from_ne_true _ (λ e. other (sym ((bytes_eq-Decides name its).0 e)))

  -- if no name is this one, it has no place
  pub nowhere : All IsOther names → None ≡ place_of name names
  nowhere p =
      let e : position_or_len (pointwise nat_eq name) names ≡ length names =
      position_or_len_is (pointwise nat_eq name) names (length names) [] (omega arith) (λ k l. fails _ (p k [] (omega arith)))
      (λ l. absurd (omega arith)) in
      rw (e, le-ltb (length names) (length names) (omega arith)) refl

  -- if a name is this one, that is its place
  pub here : (i : ℕ) → Rise names → i < length names → slice_index_or names i [] ≡ name → Some i ≡ place_of name names
  here i rise l same =
      let at : pointwise nat_eq name (slice_index_or names i []) ≡ true = rw same ((bytes_eq-Decides name name).1 refl) in
      let e : position_or_len (pointwise nat_eq name) names ≡ i =
      position_or_len_is (pointwise nat_eq name) names i [] (omega arith)
      (λ k m. fails _ (λ q. below _ _ (rise k i [] m l) (q ∙ sym same))) (λ _. at) in
      rw (e, lt-ltb i (length names) (omega arith)) refl

  -- if the middle name is less, all up to it are left out
  pub higher : (low high middle : ℕ) → Rise names → Narrows names name low high → middle < high
      → slice_cmp nat_cmp (slice_index_or names middle []) name ≡ Less → Narrows names name (middle + 1) high
  higher low high middle rise n l c = record { within = n.within; before = go; after = n.after }
    where
      go : AllWithin IsOther names 0 (middle + 1)
      go k d z s =
          let w = n.within in
          let t : slice_cmp nat_cmp (slice_index_or names middle d) name ≡ Less = rw (get_or_default names middle d [] (omega arith)) c in
          elim (cases_order k middle) [
            | inl q ↦ rw q (below _ _ t)
            | inr (inl q) ↦ below _ _ (nat_list_cmp_total.trans _ _ name (rise k middle d q (omega arith)) t)
            | inr (inr q) ↦ absurd (omega arith)
          ]

  -- if the middle name is greater, it and all above are left out
  pub lower : (low high middle : ℕ) → Rise names → Narrows names name low high → middle < high
      → slice_cmp nat_cmp (slice_index_or names middle []) name ≡ Greater → Narrows names name low middle
  lower low high middle rise n l c = record { within = (let w = n.within in omega arith); before = n.before; after = go }
    where
      go : AllWithin IsOther names middle (length names)
      go k d s m =
          let w = n.within in
          let g : slice_cmp nat_cmp (slice_index_or names middle d) name ≡ Greater =
          rw (get_or_default names middle d [] (omega arith)) c in
          let t : slice_cmp nat_cmp name (slice_index_or names middle d) ≡ Less = nat_list_cmp_total.antisymm name _
          ∙ ap ordering_reverse g in
          elim (cases_order middle k) [
            | inl q ↦ λ same. below _ _ (rw q at t) (sym same)
            | inr (inl q) ↦ λ same. below _ _ (nat_list_cmp_total.trans name _ _ t (rise middle k d q m)) (sym same)
            | inr (inr q) ↦ absurd (omega arith)
          ]

  -- if no place is left, no name is this one
  pub all_other : (low high : ℕ) → Narrows names name low high → high ≤ low → All IsOther names
  all_other low high n l k d m = elim (cases_order k low) [
    | inl q ↦ n.after k d (omega arith) m
    | inr (inl q) ↦ n.before k d (omega arith) q
    | inr (inr q) ↦ n.after k d (omega arith) m
  ]

  -- if one place is left, it is this one or none
  pub not_this : (low high : ℕ) → Narrows names name low high → low + 1 ≡ high → slice_index_or names low [] ≢ name → All IsOther names
  not_this low high n l other k d m = elim (cases_order k low) [
    | inl q ↦ rw (q, get_or_default names low d [] (let w = n.within in omega arith)) other
    | inr (inl q) ↦ n.before k d (omega arith) q
    | inr (inr q) ↦ n.after k d (omega arith) m
  ]
