-- Lists that loops grow one by one: one more element follows the earlier ones.
use Rattle.std.proofs.Common.{◌≡◌, ◌∙◌, sym, ap, ℕ, ◌+◌, ◌<◌, List, [], ◌∷◌, ◌++◌, length, map, take, get_or}
use Rattle.std.proofs.lemmas.List.{map_more}

-- what is made of one more
pub one_mapped : {A B : Type 0} (f : A → B) (xs : List A) (now new : List B) (i : ℕ) (x : A) (y : B) → i < length xs
    → now ≡ map f (take i xs) → new ≡ now ++ y ∷ [] → y ≡ f x → x ≡ get_or xs i x → new ≡ map f (take (i + 1) xs)
one_mapped f xs now new i x y l is push same at =
    push ∙ ap (λ z. now ++ z ∷ []) (same ∙ ap f at) ∙ ap (λ zs. zs ++ f (get_or xs i x) ∷ []) is ∙ sym (map_more f xs i x l)
