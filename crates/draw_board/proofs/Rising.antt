-- Rising lists: their elements, and how two are merged. The main lemmas are `rises-whole`, that a rising list that fills its range is the
-- range, and `unites`, that a merged list which rises comes from two lists with no position in common.
use Rattle.std.proofs.Common.{◌≡◌, ℕ, suc, ◌+◌, ◌<◌, ◌≤◌, ◌≢◌, cond, eqb, List, [], ◌∷◌, ◌++◌, length, sym, refl, ap, ◌∙◌, subst, arith, length-append, eq-eqb, ne_eqb, lt-ltb, le-ltb, lt_of_not-le}
use mathlib.Core.Logic.{dite}
use native.Mathlib.Decide.{ℕ_discrete, dec_le}
use Rattle.std.specs.List.{range_with_len}
use Rattle.std.specs.List.Sorted.{IsPermutation}
use Rattle.std.proofs.lemmas.List.Sums.{sum_by-cons, sum_by-append, sum_by_push}
use Rattle.std.proofs.lemmas.List.Sorted.{IsPermutation-refl, IsPermutation-cons, IsPermutation-trans, IsPermutation-middle, IsPermutation-sym, sum_by-IsPermutation, length_permutation}
use Rattle.draw_board.specs.Positions.{times, Unites, RisesWithin, inserted, merged}

-- how often x is y
abbrev pub one : ℕ → ℕ → ℕ
one y x = cond (eqb y x) 1 0

-- a number is itself once
pub one-same : (y x : ℕ) → y ≡ x → one y x ≡ 1
one-same y x e = ap (λ b. cond b 1 0) (eq-eqb y x e)

-- and another number does not occur
pub one-other : (y x : ℕ) → y ≢ x → one y x ≡ 0
one-other y x n = ap (λ b. cond b 1 0) (ne_eqb y x n)

-- a position occurs in a list as often as at its front and after that
pub times-cons : (x y : ℕ) (l : List ℕ) → times x (y ∷ l) ≡ one y x + times x l
times-cons x y l = sum_by-cons (λ z. one z x) y l

-- and as often as before its last and there
pub times-push : (x p : ℕ) (l : List ℕ) → times x (l ++ p ∷ []) ≡ times x l + one p x
times-push x p l = sum_by_push (λ z. one z x) l p

-- x goes before the first greater one
put : (F : List ℕ → Type 0) (x y : ℕ) (ys : List ℕ) → (x < y → F (x ∷ y ∷ ys)) → (y ≤ x → F (y ∷ inserted x ys)) → F (inserted x (y ∷ ys))
put F x y ys before after = go (dec_le y x)
  where
    go : Dec (y ≤ x) → F (inserted x (y ∷ ys))
    go (yes d) = subst (λ b. F (cond b (x ∷ y ∷ ys) (y ∷ inserted x ys))) (sym (le-ltb x y d)) (after d)
    go (no n) = subst (λ b. F (cond b (x ∷ y ∷ ys) (y ∷ inserted x ys))) (sym (lt-ltb x y (lt_of_not-le n))) (before (lt_of_not-le n))

inserted-moves : (x : ℕ) (l : List ℕ) → IsPermutation (x ∷ l) (inserted x l)
inserted-moves x [] = IsPermutation-refl (x ∷ [])
inserted-moves x (y ∷ ys) = put (λ l. IsPermutation (x ∷ y ∷ ys) l) x y ys (λ _. IsPermutation-refl (x ∷ y ∷ ys))
    (λ _. IsPermutation-trans (x ∷ y ∷ ys) (y ∷ x ∷ ys) (y ∷ inserted x ys)
    (IsPermutation-sym (y ∷ x ∷ ys) (x ∷ y ∷ ys) (IsPermutation-middle (y ∷ []) x ys))
    (IsPermutation-cons y (x ∷ ys) (inserted x ys) (inserted-moves x ys)))

-- a merged list is both lists in another order
pub merged-moves : (l m : List ℕ) → IsPermutation (l ++ m) (merged l m)
merged-moves [] m = IsPermutation-refl m
merged-moves (x ∷ xs) m = IsPermutation-trans (x ∷ (xs ++ m)) (x ∷ merged xs m) (inserted x (merged xs m))
    (IsPermutation-cons x (xs ++ m) (merged xs m) (merged-moves xs m)) (inserted-moves x (merged xs m))

-- a position occurs in it as often as in both
pub times-merged : (x : ℕ) (l m : List ℕ) → times x (merged l m) ≡ times x l + times x m
times-merged x l m = sum_by-IsPermutation (λ z. one z x) (l ++ m) (merged l m) (merged-moves l m) ∙ sum_by-append (λ z. one z x) l m

-- it is as long as both
pub length-merged : (l m : List ℕ) → length (merged l m) ≡ length l + length m
length-merged l m = length_permutation (l ++ m) (merged l m) (merged-moves l m) ∙ length-append l m

-- a rising list is no longer than its range
pub rises-span : (a : ℕ) (l : List ℕ) (b : ℕ) → RisesWithin a l b → a + length l ≤ b
rises-span a [] b r = omega (arith, r)
rises-span a (x ∷ xs) b r = let s = rises-span (suc x) xs b r.1 in let h = r.0 in omega arith

-- the range of a rising list may end higher
pub rises-up : (a : ℕ) (l : List ℕ) (b c : ℕ) → RisesWithin a l b → b ≤ c → RisesWithin a l c
rises-up a [] b c r h = omega (arith, r)
rises-up a (x ∷ xs) b c r h = (r.0, rises-up (suc x) xs b c r.1 h)

rises-down : (c a : ℕ) (l : List ℕ) (b : ℕ) → c ≤ a → RisesWithin a l b → RisesWithin c l b
rises-down c a [] b h r = omega (arith, r)
rises-down c a (x ∷ xs) b h r = (let p = r.0 in omega arith, r.1)

-- a rising list may be followed by what is at or above the end of its range
pub rises-push : (a : ℕ) (l : List ℕ) (b p : ℕ) → RisesWithin a l b → b ≤ p → RisesWithin a (l ++ p ∷ []) (suc p)
rises-push a [] b p r h = (omega (arith, r), omega arith)
rises-push a (x ∷ xs) b p r h = (r.0, rises-push (suc x) xs b p r.1 h)

none_below : (a : ℕ) (l : List ℕ) (b x : ℕ) → RisesWithin a l b → x < a → times x l ≡ 0
none_below a [] b x r h = refl
none_below a (y ∷ ys) b x r h = let p = r.0 in omega (
  arith,
  times-cons x y ys,
  one-other y x (λ e. omega arith),
  none_below (suc y) ys b x r.1 (omega arith),
)

-- no position at or above the end of its range occurs in a rising list
pub none_above : (a : ℕ) (l : List ℕ) (b x : ℕ) → RisesWithin a l b → b ≤ x → times x l ≡ 0
none_above a [] b x r h = refl
none_above a (y ∷ ys) b x r h = let p = rises-span (suc y) ys b r.1 in
    omega (arith, times-cons x y ys, one-other y x (λ e. omega arith), none_above (suc y) ys b x r.1 h)

rises-once : (a : ℕ) (l : List ℕ) (b x : ℕ) → RisesWithin a l b → times x l ≤ 1
rises-once a [] b x r = omega arith
rises-once a (y ∷ ys) b x r = let c = times-cons x y ys in
    dite (ℕ_discrete y x) (λ e. omega (arith, one-same y x e, none_below (suc y) ys b x r.1 (omega arith)))
    (λ n. omega (arith, one-other y x n, rises-once (suc y) ys b x r.1))

rises-inserted : (x a : ℕ) (l : List ℕ) (b : ℕ) → RisesWithin a l b → a ≤ x → x < b → times x l ≡ 0 → RisesWithin a (inserted x l) b
rises-inserted x a [] b r h g z = (h, omega arith)
rises-inserted x a (y ∷ ys) b r h g z = let c = times-cons x y ys in put (λ l. RisesWithin a l b) x y ys (λ lt. (h, (omega arith, r.1)))
    (λ le. let apart : y ≢ x = λ e. let o = one-same y x e in omega arith in (
      r.0,
      rises-inserted x (suc y) ys b r.1 (omega (arith, strict y x apart le)) g
          (omega (arith, one-other y x apart)),
    ))
  where
    strict : (y x : ℕ) → y ≢ x → y ≤ x → y < x
    strict y x n le = dite (dec_le x y) (λ d. absurd (n (omega arith))) (λ d. lt_of_not-le d)

-- two rising lists of one range with no position twice merge to a rising one
pub rises-merged : (a : ℕ) (l m : List ℕ) (b : ℕ) → RisesWithin a l b → RisesWithin a m b → ((x : ℕ) → times x l + times x m ≤ 1)
    → RisesWithin a (merged l m) b
rises-merged a [] m b r s once = s
rises-merged a (x ∷ xs) m b r s once = let lower = r.0 in let here = once x in let c = times-cons x x xs in
    let o = one-same x x refl in let t = times-merged x xs m in let p = rises-span (suc x) xs b r.1 in
    rises-inserted x a (merged xs m) b (rises-merged a xs m b (rises-down a (suc x) xs b (omega arith) r.1) s
    (λ y. let q = once y in let d = times-cons y x xs in omega arith)) lower (omega arith) (omega arith)

-- a rising list that fills its range
pub rises-whole : (a : ℕ) (l : List ℕ) (b : ℕ) → RisesWithin a l b → b ≤ a + length l → l ≡ range_with_len a (length l)
rises-whole a [] b r h = refl
rises-whole a (x ∷ xs) b r h = let p = r.0 in let s = rises-span (suc x) xs b r.1 in let same : x ≡ a = omega arith in
    let next : suc x ≡ a + 1 = omega arith in
    λ i. same i ∷ (rises-whole (suc x) xs b r.1 (omega arith) ∙ ap (λ (z : ℕ). range_with_len z (length xs)) next) i

-- a merged list that rises comes from two lists with no position in common
pub unites : (l m all : List ℕ) (b : ℕ) → all ≡ merged l m → RisesWithin 0 all b → Unites l m all
unites l m all b same r = record {
  apart = λ x. let o = rises-once 0 all b x r in let t = times-merged x l m in let e = ap (times x) same in omega arith;
  both = subst (IsPermutation (l ++ m)) (sym same) (merged-moves l m);
}
