-- A run of attributes, from i up to an end, as one attribute and the run after it (run_step): what that
-- says about the tests of a list, if the attribute passes (.._step) or fails (.._fails).
use Rattle.std.proofs.Common.{◌≡◌, ◌∙◌, sym, ap, ℕ, zero, suc, ◌+◌, ◌-◌, ◌*◌, ◌<◌, ◌≤◌, List, [], ◌∷◌, ◌++◌, length, refl, arith, add-one}
use Rattle.std.proofs.Common.{inl, inr}
use Rattle.std.specs.Prelude.{true, false, ◌&&◌, nat_le}
use Rattle.std.proofs.lemmas.Bool.{cases_lt}
use Rattle.std.proofs.lemmas.Bool.Decides.{nat_tests}
use Rattle.romfs_rows.specs.Runs.{rises_at}
use Rattle.std.specs.List.{list_all, list_any}
use Rattle.std.specs.Ordering.{nat_cmp, is_lt}
use Rattle.std.specs.Cmp.Lexicographic.{slice_cmp}
use Rattle.std.proofs.lemmas.List.{length-append}
use Rattle.romfs_format.specs.Extended.{Extended, is_acl_name, is_extended, names_of, names_rise}
use Rattle.romfs_format.specs.Part.{piece, attribute, attributes}

module _ (y : List ℕ) (end : ℕ) where
  -- the attributes from i on
  abbrev pub run : ℕ → List Extended
  run i = attributes y i (end - i)

  pub run_step : (i : ℕ) → i < end → run i ≡ attribute y i ∷ run (i + 1)
  run_step i l =
      let e : end - i ≡ suc (end - (i + 1)) = omega arith in
      rw e (ap (λ (k : ℕ). attribute y i ∷ attributes y k (end - (i + 1))) (sym (add-one i)))

  pub run_ends : (i : ℕ) → end ≤ i → run i ≡ []
  run_ends i l = let e : end - i ≡ 0 = omega arith in rw e refl

  pub all_step : (i : ℕ) → i < end → is_extended (attribute y i) ≡ true
      → list_all is_extended (run i) ≡ list_all is_extended (run (i + 1))
  all_step i l e = ap (list_all is_extended) (run_step i l) ∙ rw e refl

  pub all_fails : (i : ℕ) → i < end → is_extended (attribute y i) ≡ false → list_all is_extended (run i) ≡ false
  all_fails i l e = ap (list_all is_extended) (run_step i l) ∙ rw e refl

  pub any_step : (i : ℕ) → i < end → is_acl_name (piece y (2 * i)) ≡ false
      → list_any (λ x. is_acl_name x.name) (run i) ≡ list_any (λ x. is_acl_name x.name) (run (i + 1))
  any_step i l e = ap (list_any (λ (x : Extended). is_acl_name x.name)) (run_step i l) ∙ rw e refl

  pub any_found : (i : ℕ) → i < end → is_acl_name (piece y (2 * i)) ≡ true → list_any (λ x. is_acl_name x.name) (run i) ≡ true
  any_found i l e = ap (list_any (λ (x : Extended). is_acl_name x.name)) (run_step i l) ∙ rw e refl

  names_at : (i : ℕ) → i + 1 < end
      → names_rise (run i) ≡ (is_lt (slice_cmp nat_cmp (piece y (2 * i)) (piece y (2 * (i + 1)))) && names_rise (run (i + 1)))
  names_at i l =
      ap names_rise (run_step i (omega arith)
      ∙ ap (λ xs. attribute y i ∷ xs) (run_step (i + 1) l))
      ∙ ap (λ xs. is_lt (slice_cmp nat_cmp (piece y (2 * i)) (piece y (2 * (i + 1)))) && names_rise xs) (sym (run_step (i + 1) l))

  pub rises_before : (i : ℕ) → i + 1 < end
      → rises_at y end i ≡ is_lt (slice_cmp nat_cmp (piece y (2 * i)) (piece y (2 * (i + 1))))
  rises_before i m = let f : nat_le end (i + 1) ≡ false = grind (arith, nat_tests) in rw f refl

  pub rise_step : (i : ℕ) → i < end → rises_at y end i ≡ true → names_rise (run i) ≡ names_rise (run (i + 1))
  rise_step i l e = elim (cases_lt (i + 1) end) [
    | inl m ↦ (
        let f : is_lt (slice_cmp nat_cmp (piece y (2 * i)) (piece y (2 * (i + 1)))) ≡ true = sym (rises_before i m) ∙ e in
        names_at i m ∙ rw f refl)
    | inr m ↦ (
        let n = run_ends (i + 1) m in
        ap names_rise (run_step i l ∙ ap (λ xs. attribute y i ∷ xs) n) ∙ ap names_rise (sym n))
  ]

  pub rise_fails : (i : ℕ) → i < end → rises_at y end i ≡ false → names_rise (run i) ≡ false
  rise_fails i l e = elim (cases_lt (i + 1) end) [
    | inl m ↦ (
        let f : is_lt (slice_cmp nat_cmp (piece y (2 * i)) (piece y (2 * (i + 1)))) ≡ false = sym (rises_before i m) ∙ e in
        names_at i m ∙ rw f refl)
    | inr m ↦ absurd (let f : nat_le end (i + 1) ≡ true = grind (arith, nat_tests) in let g : true ≡ false = rw f at e in cc)
  ]

  pub names_step : (i : ℕ) → i < end
      → length (names_of (run i)) ≡ length (piece y (2 * i)) + 1 + length (names_of (run (i + 1)))
  names_step i l =
      ap (λ xs. length (names_of xs)) (run_step i l)
      ∙ length-append (piece y (2 * i)) (0 ∷ names_of (run (i + 1)))
      ∙ (omega arith)
