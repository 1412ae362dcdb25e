-- Places that are noted by slot. Those outside are noted from the first (outside, none_inside), so only places
-- inside are added (pushed_new); all are multiples of 16, so a slot is one place (aligned).
use Rattle.std.proofs.Common.{◌≡◌, ◌≢◌, ◌∙◌, sym, subst, ℕ, ◌/◌, ◌%◌, ◌<◌, ◌≤◌, ◌==◌, ◌||◌, inl, inr, List, [], ◌∷◌, ◌++◌, length, get_or, set, replicate, Bool, IsTrue, true, false, arith}
use Rattle.std.specs.Prelude.{nat_le}
use Rattle.std.specs.List.{Contains}
use Rattle.std.proofs.lemmas.Bool.{cases_lt, and_parts, and_from, or_left, or_right, or_cases, eqb-true, false≢true}
use Rattle.std.proofs.lemmas.Bool.Decides.{nat_tests}
use Rattle.std.proofs.lemmas.List.Elements.{Contains-append_left, Contains-push, Contains-push_cases}
use Rattle.romfs_sets.proofs.Marks.{no_marks, newly_set, still_set, was_set}
use Rattle.romfs_kept.specs.Walk.{is_noted, HasPushed}

module _ (size : ℕ) (slots : List Bool) where
  pub aligned : (h : ℕ) → IsTrue (is_noted size slots h) → h % 16 ≡ 0
  aligned h s = eqb-true _ _ (and_parts (h % 16 == 0) _ s).0

  -- a place inside is noted by its slot
  pub by_slot : (h : ℕ) → h < size → IsTrue (is_noted size slots h) → get_or slots (h / 16) false ≡ true
  by_slot h l s = elim (or_cases (nat_le size h) (get_or slots (h / 16) false) (and_parts (h % 16 == 0) _ s).1) [
    | inl e ↦ absurd (grind (arith, nat_tests))
    | inr e ↦ e
  ]

  even : (h : ℕ) → h % 16 ≡ 0 → (h % 16 == 0) ≡ true
  even h e = grind (arith, nat_tests)

  pub outside : (h : ℕ) → h % 16 ≡ 0 → size ≤ h → IsTrue (is_noted size slots h)
  outside h e l = and_from (h % 16 == 0) (nat_le size h || get_or slots (h / 16) false) (even h e)
      (or_left (nat_le size h) (get_or slots (h / 16) false) (grind (arith, nat_tests)))

  pub inside : (h : ℕ) → h % 16 ≡ 0 → get_or slots (h / 16) false ≡ true → IsTrue (is_noted size slots h)
  inside h e s = and_from (h % 16 == 0) (nat_le size h || get_or slots (h / 16) false) (even h e)
      (or_right (nat_le size h) (get_or slots (h / 16) false) s)

  -- nothing is pushed
  pub pushed_none : (todo : List ℕ) (test : Bool) (place : ℕ) → (IsTrue test → IsTrue (is_noted size slots place))
      → HasPushed todo todo (is_noted size slots) (is_noted size slots) test place
  pushed_none todo test place n = record {
    grown = λ h c. c;
    from = λ h c. inl c;
    stays = λ h s. s;
    has = n;
    only = λ h s. inl s;
  }

-- in the empty set no place inside is noted
pub none_inside : (size count : ℕ) (slots : List Bool) → slots ≡ replicate count false → (h : ℕ) → IsTrue (is_noted size slots h)
    → h < size → ⊥
none_inside size count slots e h s l = false≢true (sym (no_marks slots count e (h / 16)) ∙ by_slot size slots h l s)

-- a place inside is pushed
pub pushed_new : (size : ℕ) (old new : List Bool) (before after : List ℕ) (test : Bool) (place : ℕ) → place % 16 ≡ 0
    → place / 16 < length old → new ≡ set old (place / 16) true → after ≡ before ++ place ∷ []
    → HasPushed before after (is_noted size old) (is_noted size new) test place
pushed_new size old new before after test place even l e f = rw (e, f) (record {
  grown = λ h c. Contains-append_left before (place ∷ []) h c;
  from = λ h c. elim (Contains-push_cases before place h c) [
    | inl x ↦ inl x
    | inr x ↦ inr (sym x)
  ];
  stays = λ h s. elim (cases_lt h size) [
    | inl m ↦ inside size now h (aligned size old h s) (still_set old (place / 16) (h / 16) l (by_slot size old h m s))
    | inr m ↦ outside size now h (aligned size old h s) m
  ];
  has = λ t. inside size now place even (newly_set old (place / 16) l);
  only = λ h s. elim (cases_lt h size) [
    | inl m ↦ elim (was_set old (place / 16) (h / 16) (by_slot size now h m s)) [
      | inl same ↦ (let is : h ≡ place = (let a = aligned size now h s in omega arith) in
          inr (is, subst (λ k. Contains (before ++ place ∷ []) k) (sym is) (Contains-push before place)))
      | inr o ↦ inl (inside size old h (aligned size now h s) o)
    ]
    | inr m ↦ inl (outside size old h (aligned size now h s) m)
  ];
})
  where
    now : List Bool
    now = set old (place / 16) true
