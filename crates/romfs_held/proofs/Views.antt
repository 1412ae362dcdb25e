-- The first bytes of a filled list are filled (first_filled); a list begins with the bytes that it
-- has at its first places (begins, begins_not), which a test decides (same_front, other_front,
-- short_front); a number of eight bytes is made of two words (long_by_words), and both are the same
-- in the bytes after a place (word_behind, long_behind).
use Rattle.std.proofs.Common.{◌≡◌, ◌≢◌, ◌∙◌, sym, ap, ℕ, zero, suc, ◌+◌, ◌*◌, ◌^◌, ◌<◌, ◌≤◌, inl, inr, true, false, List, [], ◌∷◌, ◌++◌, length, take, drop, get_or, refl, arith, length-take-le}
use Rattle.std.specs.Prelude.{nat_eq}
use Rattle.std.specs.List.{starts_with}
use Rattle.std.proofs.lemmas.Bool.{cases_eq, eq-eqb, ne_eqb}
use Rattle.std.proofs.lemmas.List.{drop-drop, get_or-drop, get_or-take, get_or_append_left, ext_get_or, take-append-drop}
use Rattle.byteorder.specs.Endian.{big_number}
use Rattle.romfs_format.specs.Fields.{word}
use Rattle.romfs_format.specs.Rules.{StartsWith}
use Rattle.romfs_format.specs.Trailer.{long_word}
use Rattle.romfs_held.specs.Blocks.{filled}
use Rattle.romfs_held.proofs.Fronts.{filled_at, filled_long}

pub first_filled : (size n : ℕ) (blocks bytes : List ℕ) → n ≤ size → filled n blocks bytes ≡ take n (filled size blocks bytes)
first_filled size n blocks bytes l =
    let f = filled_long size blocks bytes in
    let g = filled_long n blocks bytes in
    let t = length-take-le n (filled size blocks bytes) (omega arith) in
    ext_get_or 0 _ _ (omega arith) (λ i m.
    filled_at n blocks bytes i (omega arith) ∙ sym (filled_at size blocks bytes i (omega arith))
    ∙ sym (get_or-take n (filled size blocks bytes) i 0 (omega arith)))

-- a list that has the same bytes at its first places begins with them
pub begins : (a xs : List ℕ) → length xs ≤ length a → ((i : ℕ) → i < length xs → get_or a i 0 ≡ get_or xs i 0) → StartsWith a xs
begins a xs l h =
    let t = length-take-le (length xs) a l in
    let e : take (length xs) a ≡ xs = ext_get_or 0 _ _ (omega arith) (λ i m.
    get_or-take (length xs) a i 0 (omega arith) ∙ h i (omega arith)) in
    (drop (length xs) a, sym (take-append-drop (length xs) a) ∙ ap (λ t. t ++ drop (length xs) a) e)

-- one that has another byte at one of them does not
pub begins_not : (a xs : List ℕ) (i : ℕ) → i < length xs → get_or a i 0 ≢ get_or xs i 0 → ¬ StartsWith a xs
begins_not a xs i l n s = n (ap (λ b. get_or b i 0) s.1 ∙ get_or_append_left xs s.0 0 i l)

-- a test whether a list begins with another depends on its first places
pub same_front : (xs ys : List ℕ) → length ys ≤ length xs → ((i : ℕ) → i < length ys → get_or xs i 0 ≡ get_or ys i 0)
    → starts_with nat_eq xs ys ≡ true
same_front xs [] l h = refl
same_front [] (y ∷ ys) l h = absurd (omega arith)
same_front (x ∷ xs) (y ∷ ys) l h =
    rw (eq-eqb y x (sym (h 0 (omega arith)))) (same_front xs ys (omega arith) (λ i m. h (suc i) (omega arith)))

-- if a first byte is the same, the others decide; if it is another, it decides
heads : (x y : ℕ) (xs ys : List ℕ) → starts_with nat_eq xs ys ≡ false → starts_with nat_eq (x ∷ xs) (y ∷ ys) ≡ false
heads x y xs ys e = elim (cases_eq y x) [
  | inl f ↦ rw (eq-eqb y x f) e
  | inr n ↦ rw (ne_eqb y x n) refl
]

pub other_front : (xs ys : List ℕ) (i : ℕ) → i < length ys → get_or xs i 0 ≢ get_or ys i 0 → starts_with nat_eq xs ys ≡ false
other_front xs [] i l n = absurd (omega arith)
other_front [] (y ∷ ys) i l n = refl
other_front (x ∷ xs) (y ∷ ys) zero l n = rw (ne_eqb y x (λ e. n (sym e))) refl
other_front (x ∷ xs) (y ∷ ys) (suc i) l n = heads x y xs ys (other_front xs ys i (omega arith) n)

pub short_front : (xs ys : List ℕ) → length xs < length ys → starts_with nat_eq xs ys ≡ false
short_front xs [] l = absurd (omega arith)
short_front [] (y ∷ ys) l = refl
short_front (x ∷ xs) (y ∷ ys) l = heads x y xs ys (short_front xs ys (omega arith))

-- a number of eight bytes is that of the first four and that of the others
pub long_by_words : (b : List ℕ) (p : ℕ) → word b p * 2 ^ 32 + word b (p + 4) ≡ long_word b p
unfolding word long_word
long_by_words b p =
    let e : (i : ℕ) → get_or (drop (p + 4) b) i 0 ≡ get_or (drop p b) (4 + i) 0 =
    λ i. ap (λ xs. get_or xs i 0) (sym (drop-drop 4 p b)) ∙ get_or-drop 4 (drop p b) i 0 in
    let f = e 0 in
    let g = e 1 in
    let k = e 2 in
    let m = e 3 in
    omega arith

-- words of the bytes from a place on are those after that place
pub word_behind : (b : List ℕ) (place at : ℕ) → word b (place + at) ≡ word (drop place b) at
unfolding word
word_behind b place at = ap (big_number 4) (sym (drop-drop at place b))

pub long_behind : (b : List ℕ) (place at : ℕ) → long_word b (place + at) ≡ long_word (drop place b) at
unfolding long_word
long_behind b place at = ap (big_number 8) (sym (drop-drop at place b))
