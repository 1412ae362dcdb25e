-- Lists of none and of one element: what is in them (none_in, one_in, has_one), and that a list
-- without a last element is empty (none_left). Each is independent of the others.
use Rattle.std.proofs.Common.{◌≡◌, ◌∙◌, ap, ℕ, zero, suc, ◌-◌, List, [], ◌∷◌, ◌++◌, take, refl, arith}
use Rattle.std.specs.List.{Contains}
use Rattle.std.proofs.lemmas.List.{append-nil}

-- nothing is in an empty list
pub none_in : {X : Type 0} (g : X) → Contains {X = X} [] g → ⊥
none_in g (k, l, e) = omega arith

-- what is in a list of one element is that element
pub one_in : {X : Type 0} (x g : X) → Contains (x ∷ []) g → x ≡ g
one_in x g (zero, l, e) = e
one_in x g (suc k, l, e) = absurd (omega arith)

-- a list of one element holds it
pub has_one : {X : Type 0} (x : X) → Contains (x ∷ []) x
has_one x = (0, omega arith, refl)

-- a list that has no last element to be taken is empty
pub none_left : {X : Type 0} (todo rest : List X) (n : ℕ) → todo ≡ rest ++ [] → rest ≡ take (n - 1) todo → n ≡ 0 → todo ≡ []
none_left todo rest n e t z = e ∙ append-nil rest ∙ t ∙ ap (λ m. take (m - 1) todo) z
