-- Elements of lists, as slice_get finds them.
use Rattle.std.proofs.Common.{◌≡◌, subst, ℕ, zero, suc, List, [], ◌∷◌, map, refl, Some}
use Rattle.std.specs.Prelude.{slice_get}
use Rattle.std.specs.List.{AllByRecursion}

-- what holds of all elements holds of each
pub all_get : {X : Type 0} (P : X → Type 0) (xs : List X) (k : ℕ) (x : X) → AllByRecursion P xs → slice_get xs k ≡ Some x → P x
all_get P [] k x a e = absurd (cc)
all_get P (y ∷ xs) zero x a e = let f : y ≡ x = cc in subst P f a.0
all_get P (y ∷ xs) (suc k) x a e = all_get P xs k x a.1 e

-- an element of the list of values is the value of the element at its place
pub get_of_map : {X Y : Type 0} (f : X → Y) (xs : List X) (k : ℕ) (y : Y) → slice_get (map f xs) k ≡ Some y
    → (x : X) × (slice_get xs k ≡ Some x) × (f x ≡ y)
get_of_map f [] k y e = absurd (cc)
get_of_map f (x ∷ xs) zero y e = (x, refl, (let g : f x ≡ y = cc in g))
get_of_map f (x ∷ xs) (suc k) y e = get_of_map f xs k y e
