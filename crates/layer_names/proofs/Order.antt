-- Keys keep the order of names: `key_order`. If two keys are the same, so are the first bytes (`key_tells`).
use Rattle.std.proofs.Common.{◌≡◌, ◌∙◌, sym, ap, ℕ, zero, suc, ◌+◌, ◌*◌, ◌/◌, ◌%◌, ◌^◌, ◌<◌, ◌≤◌, inl, inr, List, [], ◌∷◌, ◌++◌, length, take, drop, refl, arith}
use Rattle.std.specs.Prelude.{slice_index}
use Rattle.std.specs.Cmp.Lexicographic.{slice_cmp}
use Rattle.std.specs.Ordering.{nat_cmp}
use Rattle.std.specs.declared.cmp.Ordering.TheVariants.{Less, Greater}
use Rattle.std.proofs.Math.Nat.{pow-suc, mul_assoc, mul_comm}
use Rattle.std.proofs.lemmas.Bool.{cases_lt}
use Rattle.std.proofs.lemmas.Cmp.{nat_cmp_total, ranked, by_ranked, tied_itself}
use Rattle.std.proofs.lemmas.List.{get_or-take, get_or-drop, get_or_past, get_or_default, length-take}
use Rattle.std.proofs.lemmas.Nat.{mul-add-lt, div-mul-add, mod-mul-add}
use Rattle.layer_names.specs.Keys.{key, AreBytes}

-- the same as `AreBytes`, by places after the end too
abbrev pub Bytes : List ℕ → Type 0
Bytes xs = (k : ℕ) → slice_index xs k < 256

-- if each place reads as a byte, all are bytes
pub all_bytes : (xs : List ℕ) → Bytes xs → AreBytes xs
all_bytes xs b k d l = rw (get_or_default xs k d 0 l) (b k)

-- if all are bytes, each place reads as one, after the end too
pub each_byte : (xs : List ℕ) → AreBytes xs → Bytes xs
each_byte xs b k = elim (cases_lt k (length xs)) [
  | inl l ↦ b k 0 l
  | inr l ↦ rw (get_or_past xs k 0 l) (omega arith)
]

tail_bytes : (x : ℕ) (xs : List ℕ) → Bytes (x ∷ xs) → Bytes xs
tail_bytes x xs b k = b (suc k)

-- what is left after the first n of bytes are bytes
pub bytes-drop : (n : ℕ) (xs : List ℕ) → Bytes xs → Bytes (drop n xs)
bytes-drop n xs b k = rw (get_or-drop n xs k 0) (b (n + k))

-- the first n of bytes are bytes
pub bytes-take : (n : ℕ) (xs : List ℕ) → Bytes xs → Bytes (take n xs)
bytes-take n xs b k = elim (cases_lt k n) [
  | inl l ↦ rw (get_or-take n xs k 0 l) (b k)
  | inr l ↦ let s = length-take n xs in rw (get_or_past (take n xs) k 0 (omega arith)) (omega arith)
]

key-nil : (n : ℕ) → key n [] ≡ 0
key-nil zero = refl
key-nil (suc n) = rw (key-nil n) refl

key-cons : (n x : ℕ) (xs : List ℕ) → key (suc n) (x ∷ xs) ≡ x * 256 ^ n + key n xs
key-cons zero x xs = omega arith
key-cons (suc n) x xs = rw (key-cons n x xs, pow-suc 256 n, ← mul_assoc x (256 ^ n) 256) (omega arith)

key_below : (n : ℕ) (xs : List ℕ) → Bytes xs → key n xs < 256 ^ n
key_below zero xs b = omega arith
key_below (suc n) xs b = let i = key_below n xs b in let h = b n in rw (pow-suc 256 n) (omega arith)

-- a list that is less has no greater key
pub key_order : (n : ℕ) (xs ys : List ℕ) → Bytes xs → slice_cmp nat_cmp xs ys ≡ Less → key n xs ≤ key n ys
key_order zero xs ys b c = omega arith
key_order (suc n) [] ys b c = let e = key-nil (suc n) in omega arith
key_order (suc n) (x ∷ xs) [] b c = absurd (cc)
key_order (suc n) (x ∷ xs) (y ∷ ys) b c =
    let t = tail_bytes x xs b in
    rw (key-cons n x xs, key-cons n y ys) (by_ranked (x < y) (x ≡ y) (y < x) (nat_cmp x y) (ranked x y (nat_cmp x y) refl)
    (λ o l. (
    let m : x * 256 ^ n + key n xs < 256 ^ n * y = mul-add-lt x (256 ^ n) (key n xs) y l (key_below n xs t) in
    let k = mul_comm y (256 ^ n) in
    omega arith))
    (λ o e. let i = key_order n xs ys t (rw o at c) in rw e (omega arith))
    (λ o l. absurd (let z : Greater ≡ Less = rw o at c in cc)))

-- for bytes of one length, a key determines the first ones
pub key_tells : (n : ℕ) (xs ys : List ℕ) → Bytes xs → Bytes ys → length xs ≡ length ys → key n xs ≡ key n ys → take n xs ≡ take n ys
key_tells zero xs ys a b l e = refl
key_tells (suc n) [] [] a b l e = refl
key_tells (suc n) [] (y ∷ ys) a b l e = absurd (omega arith)
key_tells (suc n) (x ∷ xs) [] a b l e = absurd (omega arith)
key_tells (suc n) (x ∷ xs) (y ∷ ys) a b l e =
    let w = 256 ^ n in
    let p = key_below n xs (tail_bytes x xs a) in
    let q = key_below n ys (tail_bytes y ys b) in
    let s : x * w + key n xs ≡ y * w + key n ys = sym (key-cons n x xs) ∙ e ∙ key-cons n y ys in
    let head : x ≡ y = sym (div-mul-add x w (key n xs) p) ∙ ap (λ (v : ℕ). v / w) s ∙ div-mul-add y w (key n ys) q in
    let rest : key n xs ≡ key n ys = sym (mod-mul-add x w (key n xs) p) ∙ ap (λ (v : ℕ). v % w) s ∙ mod-mul-add y w (key n ys) q in
    rw (head, key_tells n xs ys (tail_bytes x xs a) (tail_bytes y ys b) (omega arith) rest) refl

-- a common front does not affect the order
pub cmp-front : (front xs ys : List ℕ) → slice_cmp nat_cmp (front ++ xs) (front ++ ys) ≡ slice_cmp nat_cmp xs ys
cmp-front [] xs ys = refl
cmp-front (x ∷ front) xs ys = rw (tied_itself nat_cmp_total x) (cmp-front front xs ys)
