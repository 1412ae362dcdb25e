-- Equal paths: the test that compares two paths name by name says whether they are the same (`same_path_or_not`), as the test of two names
-- does.
use Rattle.std.proofs.Common.{◌≡◌, ◌≢◌, ℕ, ◌⊎◌, inl, inr, List, [], ◌∷◌, refl, true, false, ap, ◌∙◌}
use Rattle.layer_paths.specs.Rows.{equal_names}
use Rattle.layer_paths.proofs.Names.{same_or_not}

-- two paths are the same and the test is true, or they differ and it is false
abbrev pub IsSamePathOrNot : List (List ℕ) → List (List ℕ) → Type 0
IsSamePathOrNot p q = ((p ≡ q) × (equal_names p q ≡ true)) ⊎ ((p ≢ q) × (equal_names p q ≡ false))

-- the test of two paths says whether they are the same
pub same_path_or_not : (p q : List (List ℕ)) → IsSamePathOrNot p q
same_path_or_not [] [] = inl (refl, refl)
same_path_or_not [] (n ∷ q) = inr ((λ e. cc), refl)
same_path_or_not (m ∷ p) [] = inr ((λ e. cc), refl)
same_path_or_not (m ∷ p) (n ∷ q) = elim (same_or_not m n) [
  | inl x ↦ elim (same_path_or_not p q) [
    | inl y ↦ inl (ap (λ k. k ∷ p) x.0 ∙ ap (λ r. n ∷ r) y.0, rw (x.1, y.1) refl)
    | inr y ↦ inr ((λ e. y.0 (let f : p ≡ q = cc in f)), rw (x.1, y.1) refl)
  ]
  | inr x ↦ inr ((λ e. x.0 (let f : m ≡ n = cc in f)), rw x.1 refl)
]
