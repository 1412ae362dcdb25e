-- A header that is named . or .. has a dot as the first byte of its name (dot_first): a text begins
-- like the bytes that contain it (first), so its first byte is at the start of its field
-- (first_byte).
use Rattle.std.proofs.Common.{◌≡◌, ◌∙◌, sym, ap, ℕ, zero, suc, ◌+◌, ◌<◌, inl, inr, List, [], ◌∷◌, length, take, drop, get_or, Option, Some, None, arith}
use Rattle.std.specs.Option.{option_map}
use Rattle.std.proofs.lemmas.List.{get_or-take, get_or-drop, length-take, length-drop}
use Rattle.romfs_format.specs.declared.limits.TheConstants.{NAME_FIELD_SIZE}
use Rattle.romfs_format.specs.Fields.{text_at, ended, name_field}
use Rattle.romfs_format.specs.Chains.{IsDotted}
use Rattle.romfs_format.proofs.Text.{name_ended}

-- a text begins like the bytes that contain it
first : (xs t : List ℕ) (c : ℕ) → ended xs ≡ Some (c ∷ t) → (0 < length xs) × (get_or xs 0 0 ≡ c)
unfolding ended
first [] t c e = absurd (cc)
first (zero ∷ xs) t c e = absurd (cc)
first (suc n ∷ xs) t c e = (omega arith, pick (ended xs) e)
  where
    pick : (o : Option (List ℕ)) → option_map (λ text. suc n ∷ text) o ≡ Some (c ∷ t) → suc n ≡ c
    pick None e = absurd (cc)
    pick (Some u) e = cc

-- the first byte of a text is at the start of its field
first_byte : (a t : List ℕ) (p c : ℕ) → text_at a p ≡ Some (c ∷ t) → (p < length a) × (get_or a p 0 ≡ c)
unfolding name_field
first_byte a t p c e =
    let f = first (take NAME_FIELD_SIZE (drop p a)) t c (name_ended a (c ∷ t) p e).0 in
    let l : 0 < length (drop p a) = omega (arith, length-take NAME_FIELD_SIZE (drop p a), f.0) in
    let z : p ≡ p + 0 = omega arith in (
      omega (arith, length-drop p a, l),
      ap (λ k. get_or a k 0) z ∙ sym (get_or-drop p a 0 0) ∙ sym (get_or-take NAME_FIELD_SIZE (drop p a) 0 0 (omega arith)) ∙ f.1,
    )

-- if a header is named . or .., the byte at which its name begins is a dot
pub dot_first : (a : List ℕ) (h : ℕ) → IsDotted a h → (h + 16 < length a) × (get_or a (h + 16) 0 ≡ 46)
dot_first a h d = elim d.1 [ inl x ↦ first_byte a [] (h + 16) 46 x | inr x ↦ first_byte a (46 ∷ []) (h + 16) 46 x ]
