-- Lists of marks: what is marked once one more mark is set (`newly_set`, `still_set`, `was_set`),
-- and how many places have none, which falls with each mark that is set (`marks_fall`).
use Rattle.std.proofs.Common.{◌≡◌, ◌∙◌, sym, ap, ℕ, zero, suc, ◌+◌, ◌<◌, ◌≤◌, ◌⊎◌, inl, inr, List, length, get_or, set, replicate, cond, not, Bool, true, false, refl, arith}
use Rattle.std.specs.List.{sum_by}
use Rattle.std.proofs.lemmas.List.Sums.{sum_by-set, count_by-le-length}
use Rattle.std.proofs.lemmas.List.{get_or-set_same, get_or-set_other}
use Rattle.std.proofs.lemmas.Bool.{cases_eq}

abbrev missing : Bool → ℕ
missing marked = cond (not marked) 1 0

-- how many have no mark
unfoldable pub unmarked : List Bool → ℕ
unmarked marks = sum_by missing marks

-- setting a mark where there was none leaves one place fewer without
pub marks_fall : (marks : List Bool) (k : ℕ) → k < length marks → get_or marks k false ≡ false → unmarked (set marks k true) + 1
    ≡ unmarked marks
unfolding unmarked
marks_fall marks k l e = let s = sum_by-set missing marks k true false l in let u : missing (get_or marks k false) ≡ 1 = ap missing e in
    omega arith

-- no more places are without a mark than there are
pub few_marks : (marks : List Bool) → unmarked marks ≤ length marks
unfolding unmarked
few_marks marks = count_by-le-length not marks

-- a list made of places without marks has no mark anywhere
pub no_marks : (marks : List Bool) (n : ℕ) → marks ≡ replicate n false → (k : ℕ) → get_or marks k false ≡ false
no_marks marks n e k = rw e (none n k)
  where
    none : (n k : ℕ) → get_or (replicate n false) k false ≡ false
    none zero k = refl
    none (suc n) zero = refl
    none (suc n) (suc k) = none n k

-- if a mark is set, there is one
pub newly_set : (marks : List Bool) (k : ℕ) → k < length marks → get_or (set marks k true) k false ≡ true
newly_set marks k l = get_or-set_same marks k true false l

-- a mark stays if one more is set
pub still_set : (marks : List Bool) (k j : ℕ) → k < length marks → get_or marks j false ≡ true → get_or (set marks k true) j false ≡ true
still_set marks k j l m = elim (cases_eq j k) [
  | inl e ↦ rw e (newly_set marks k l)
  | inr n ↦ get_or-set_other marks k j true false n ∙ m
]

-- what is marked once one more mark is set is that place, or was marked before
pub was_set : (marks : List Bool) (k j : ℕ) → get_or (set marks k true) j false ≡ true → (j ≡ k) ⊎ (get_or marks j false ≡ true)
was_set marks k j m = elim (cases_eq j k) [
  | inl e ↦ inl e
  | inr n ↦ inr (sym (get_or-set_other marks k j true false n) ∙ m)
]
