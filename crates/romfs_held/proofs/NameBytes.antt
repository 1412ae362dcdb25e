-- A name that is ended is in the image's bytes: it is the front part of the field that it is read from
-- (`front`), and lies in the image with its padding; `text_bytes` says both. The same of the name of a
-- header, with the empty one for one that is not ended (name_taken, name_within).
use Rattle.std.proofs.Common.{◌≡◌, ◌∙◌, sym, ap, ℕ, zero, suc, ◌+◌, ◌≤◌, List, [], ◌∷◌, ◌++◌, length, take, drop, Option, Some, None, refl, arith}
use Rattle.std.specs.Prelude.{unwrap_or}
use Rattle.std.specs.Option.{option_map}
use Rattle.std.proofs.Common.{append_assoc}
use Rattle.std.proofs.Math.Seq.{take-append_seam}
use Rattle.std.proofs.lemmas.List.{take-append-drop}
use Rattle.romfs_format.specs.declared.limits.TheConstants.{NAME_FIELD_SIZE}
use Rattle.romfs_format.specs.Fields.{name, text_at, text_end, ended, name_field}
use Rattle.romfs_format.specs.Heads.{name_of}
use Rattle.romfs_format.proofs.Text.{name_ended}

-- the text before the first zero byte is a front part
front : (xs t : List ℕ) → ended xs ≡ Some t → (rest : List ℕ) × (xs ≡ t ++ rest)
unfolding ended
front [] t e = absurd (cc)
front (zero ∷ xs) t e = let q : [] ≡ t = cc in (zero ∷ xs, rw (← q) refl)
front (suc n ∷ xs) t e = pick (λ u q. front xs u q) (ended xs) refl e
  where
    pick : ((u : List ℕ) → ended xs ≡ Some u → (rest : List ℕ) × (xs ≡ u ++ rest)) → (o : Option (List ℕ))
        → o ≡ ended xs → option_map (λ text. suc n ∷ text) o ≡ Some t
        → (rest : List ℕ) × (suc n ∷ xs ≡ t ++ rest)
    pick f None q e = absurd (cc)
    pick f (Some u) q e = let r = f u (sym q) in let k : suc n ∷ u ≡ t = cc in (r.0, rw (← k) (ap (λ l. suc n ∷ l) r.1))

-- an ended text lies in the image with its padding, and its bytes are those from its place on
pub text_bytes : (a t : List ℕ) (p : ℕ) → text_at a p ≡ Some t → (text_end p t ≤ length a) × (take (length t) (drop p a) ≡ t)
unfolding name_field
text_bytes a t p e =
    let w = name_ended a t p e in
    let f = front (take NAME_FIELD_SIZE (drop p a)) t w.0 in
    let g : drop p a ≡ t ++ (f.0 ++ drop NAME_FIELD_SIZE (drop p a)) = sym (take-append-drop NAME_FIELD_SIZE (drop p a))
    ∙ ap (λ x. x ++ drop NAME_FIELD_SIZE (drop p a)) f.1 ∙ append_assoc t f.0 (drop NAME_FIELD_SIZE (drop p a)) in
    (w.1, rw g (take-append_seam t (f.0 ++ drop NAME_FIELD_SIZE (drop p a))))

-- a name is the bytes after its header, as many as it has
pub name_taken : (a : List ℕ) (h : ℕ) → take (length (name_of a h)) (drop (h + 16) a) ≡ name_of a h
name_taken a h = test (name a h) refl
  where
    test : (o : Option (List ℕ)) → o ≡ name a h → take (length (unwrap_or o [])) (drop (h + 16) a) ≡ unwrap_or o []
    test None e = refl
    test (Some n) e = (text_bytes a n (h + 16) (sym e)).1

-- and ends in the image, if its header does
pub name_within : (a : List ℕ) (h : ℕ) → h + 16 ≤ length a → h + 16 + length (name_of a h) ≤ length a
name_within a h l = test (name a h) refl
  where
    test : (o : Option (List ℕ)) → o ≡ name a h → h + 16 + length (unwrap_or o []) ≤ length a
    test None e = omega arith
    test (Some n) e = let t = (text_bytes a n (h + 16) (sym e)).0 in omega arith
