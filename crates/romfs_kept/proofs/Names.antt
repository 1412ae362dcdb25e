-- Where a name ends: at the first zero byte of its field (name_ends).
use Rattle.std.proofs.Common.{◌≡◌, ◌≢◌, ◌∙◌, sym, subst, ℕ, zero, suc, ◌+◌, ◌<◌, ◌≤◌, List, [], ◌∷◌, length, drop, get_or, Option, Some, None, refl, arith, length-take}
use Rattle.std.specs.Option.{option_map}
use Rattle.std.proofs.lemmas.List.{get_or-take, get_or-drop}
use Rattle.romfs_format.specs.Fields.{ended, name_field, text_at, text_end}
use Rattle.romfs_format.proofs.Text.{name_ended}

-- what is known of a text that is ended
record Ends (xs n : List ℕ) : Type 0 where
  long : length n < length xs
  zero_at : get_or xs (length n) 0 ≡ 0
  before : (j : ℕ) → j < length n → get_or xs j 0 ≢ 0

ends : (xs n : List ℕ) → ended xs ≡ Some n → Ends xs n
unfolding ended
ends [] n e = absurd (cc)
ends (zero ∷ xs) n e =
    let f : n ≡ [] = cc in
    subst (λ m. Ends (zero ∷ xs) m) (sym f) (record { long = omega arith; zero_at = refl; before = λ j l. absurd (omega arith) })
ends (suc x ∷ xs) n e = more (λ m g. ends xs m g) (ended xs) refl e
  where
    later : (m : List ℕ) → Ends xs m → (j : ℕ) → j < length (suc x ∷ m) → get_or (suc x ∷ xs) j 0 ≢ 0
    later m r zero l w = absurd (cc)
    later m r (suc j) l w = r.before j (omega arith) w

    more : ((m : List ℕ) → ended xs ≡ Some m → Ends xs m) → (o : Option (List ℕ)) → ended xs ≡ o
        → option_map (λ text. suc x ∷ text) o ≡ Some n → Ends (suc x ∷ xs) n
    more rest None g f = absurd (cc)
    more rest (Some m) g f =
        let r = rest m g in
        let k : suc x ∷ m ≡ n = cc in
        subst (λ t. Ends (suc x ∷ xs) t) k (record {
          long = (let l = r.long in omega arith);
          zero_at = r.zero_at;
          before = λ j l. later m r j l;
        })

pub field_at : (xs : List ℕ) (p i : ℕ) → i < 256 → get_or (name_field xs p) i 0 ≡ get_or xs (p + i) 0
unfolding name_field
field_at xs p i l = get_or-take 256 (drop p xs) i 0 l ∙ get_or-drop p xs i 0

field_few : (xs : List ℕ) (p : ℕ) → length (name_field xs p) ≤ 256
unfolding name_field
field_few xs p = (let e = length-take 256 (drop p xs) in omega arith)

-- the name n begins at p, and its bytes and the zero byte after it are these
pub record NameEnds (xs : List ℕ) (p : ℕ) (n : List ℕ) : Type 0 where
  pub few : length n < 256
  pub zero_at : get_or xs (p + length n) 0 ≡ 0
  pub before : (j : ℕ) → j < length n → get_or xs (p + j) 0 ≢ 0
  pub within : text_end p n ≤ length xs

pub name_ends : (xs n : List ℕ) (p : ℕ) → text_at xs p ≡ Some n → NameEnds xs p n
name_ends xs n p e =
    let k = name_ended xs n p e in
    let t = ends (name_field xs p) n k.0 in
    let l = t.long in
    let f = field_few xs p in
    record {
      few = omega arith;
      zero_at = sym (field_at xs p (length n) (omega arith)) ∙ t.zero_at;
      before = λ j m w. t.before j m (field_at xs p j (omega arith) ∙ w);
      within = k.1;
    }
