-- The text before the first zero byte, as a search finds it: of all bytes (ended_first), or of a
-- front of them that has one (ended_near). Three lemmas say from it which name begins at a place:
-- it counts if its padding ends within the image. The last goes back from a name to its field.
use Rattle.std.proofs.Common.{◌≡◌, ◌≢◌, ◌∙◌, sym, ℕ, zero, suc, ◌<◌, Bool, true, false, leb, cond, List, [], ◌∷◌, length, take, get_or, Option, Some, None, IsSome, refl, arith, ◌≤◌}
use Rattle.std.specs.Prelude.{IfSome}
use Rattle.std.specs.Option.{option_map}
use Rattle.std.proofs.lemmas.Bool.{eqb-true, le-leb, false≢true}
use Rattle.std.proofs.lemmas.List.{get_or-take, length-take-le}
use Rattle.std.proofs.lemmas.Bool.Decides.{nat_tests}
use Rattle.memchr.specs.Find.{IsFirstByte, is_byte}
use Rattle.romfs_format.specs.Fields.{ended, name_field, text_at, text_end, if_within}

ended_none : (xs : List ℕ) → ((k : ℕ) → k < length xs → get_or xs k 0 ≢ 0) → ended xs ≡ None
unfolding ended
ended_none [] h = refl
ended_none (zero ∷ xs) h = absurd (h 0 (omega arith) refl)
ended_none (suc x ∷ xs) h = rw (ended_none xs (λ k l. h (suc k) (omega arith))) refl

ended_at : (xs : List ℕ) (k : ℕ) → k < length xs → get_or xs k 0 ≡ 0 → ((j : ℕ) → j < k → get_or xs j 0 ≢ 0) → ended xs ≡ Some (take k xs)
unfolding ended
ended_at [] k l z h = absurd (omega arith)
ended_at (zero ∷ xs) zero l z h = refl
ended_at (zero ∷ xs) (suc k) l z h = absurd (h 0 (omega arith) refl)
ended_at (suc x ∷ xs) zero l z h = absurd (omega arith)
ended_at (suc x ∷ xs) (suc k) l z h = rw (ended_at xs k (omega arith) z (λ j m. h (suc j) (omega arith))) refl

-- the bytes before the first zero byte are the ended text; there is none if no byte is zero
pub ended_first : (xs : List ℕ) (r : Option ℕ) → IsFirstByte (is_byte 0) xs r → option_map (λ k. take k xs) r ≡ ended xs
ended_first xs None h = sym (ended_none xs (λ k l e. h k (omega arith) l (rw e refl)))
ended_first xs (Some k) h = sym (ended_at xs k h.0.high (eqb-true _ _ h.1) (λ j l e. h.0.before j (omega arith) l (rw e refl)))

-- a first zero byte that is found in a front of some bytes ends the text of them all, and lies
-- among them
pub ended_near : (xs : List ℕ) (n : ℕ) (r : Option ℕ) → n ≤ length xs → IsSome r → IsFirstByte (is_byte 0) (take n xs) r
    → (option_map (λ k. take k xs) r ≡ ended xs) × IfSome r (λ k. k < length xs)
ended_near xs n None l s h = absurd (false≢true s)
ended_near xs n (Some k) l s h =
    let at : k < n = omega (arith, h.0.high, length-take-le n xs l) in
    let same : (j : ℕ) → j < n → get_or (take n xs) j 0 ≡ get_or xs j 0 = λ j m. get_or-take n xs j 0 m in (
      sym (ended_at xs k (omega arith) (sym (same k at) ∙ eqb-true _ _ h.1)
          (λ j m e. h.0.before j (omega arith) m (rw (same j (omega arith) ∙ e) refl))),
      (let r : k < length xs = omega arith in r),
    )

past : (n e : ℕ) → n < e → leb e n ≡ false
past n e h = grind (arith, nat_tests)

module _ (a field : List ℕ) (p : ℕ) (is : field ≡ name_field a p) where
  -- a place whose field has no zero byte has no name
  pub within_none : ◌≡◌ {A = Option (List ℕ)} None (ended field) → ◌≡◌ {A = Option (List ℕ)} None (text_at a p)
  within_none f = rw (← is, ← f) refl

  -- an ended text whose padding ends within the image is the name at its place
  pub within_then : (text : List ℕ) → Some text ≡ ended field → text_end p text ≤ length a → Some text ≡ text_at a p
  within_then text f h = rw (← is, ← f) (rw (le-leb (text_end p text) (length a) h) refl)

  -- a place whose text has padding that ends beyond the image has no name
  pub within_else : (text : List ℕ) → Some text ≡ ended field → length a < text_end p text → ◌≡◌ {A = Option (List ℕ)} None (text_at a p)
  within_else text f h = rw (← is, ← f) (rw (past (length a) (text_end p text) h) refl)

-- a name is the text that is ended in its field, and its padding ends within the image
pub name_ended : (a text : List ℕ) (p : ℕ) → text_at a p ≡ Some text
    → (ended (name_field a p) ≡ Some text) × (text_end p text ≤ length a)
name_ended a text p = within (ended (name_field a p))
  where
    test : (u : List ℕ) (b : Bool) → leb (text_end p u) (length a) ≡ b → cond b (Some u) None ≡ Some text
        → (Some u ≡ Some text) × (text_end p text ≤ length a)
    test u true q e = let k : u ≡ text = cc in (e, rw (← k) (grind (arith, nat_tests)))
    test u false q e = absurd (cc)

    within : (o : Option (List ℕ)) → if_within (length a) p o ≡ Some text → (o ≡ Some text) × (text_end p text ≤ length a)
    within None e = absurd (cc)
    within (Some u) e = test u (leb (text_end p u) (length a)) refl e
