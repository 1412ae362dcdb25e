-- Names in order share what the first and the last of them share: `share`, as a name between two
-- others shares what these do (`alike`).
use Rattle.std.proofs.Common.{◌≡◌, sym, ap, ℕ, zero, suc, ◌-◌, ◌<◌, ◌≤◌, inl, inr, List, [], ◌∷◌, length, take, refl, arith}
use Rattle.std.specs.Cmp.Lexicographic.{slice_cmp}
use Rattle.std.specs.List.{slice_index_or}
use Rattle.std.specs.Ordering.{nat_cmp}
use Rattle.std.specs.declared.cmp.Ordering.TheVariants.{Less, Greater}
use Rattle.std.proofs.lemmas.Bool.{cases_lt}
use Rattle.std.proofs.lemmas.Cmp.{ranked, by_ranked}
use Rattle.std.proofs.lemmas.List.{length-take, length-take-le, get_or_default}
use Rattle.layer_names.specs.Names.{Rise}
use Rattle.layer_names.specs.Keyed.{ShareFront, first_of}

-- a list between two others shares what they share
alike : (n : ℕ) (x y z : List ℕ) → slice_cmp nat_cmp x y ≡ Less → slice_cmp nat_cmp y z ≡ Less → take n x ≡ take n z → take n y ≡ take n x
alike zero x y z p q e = refl
alike (suc n) [] [] z p q e = refl
alike (suc n) [] (b ∷ y) [] p q e = absurd (cc)
alike (suc n) [] (b ∷ y) (c ∷ z) p q e = absurd (cc)
alike (suc n) (a ∷ x) [] z p q e = absurd (cc)
alike (suc n) (a ∷ x) (b ∷ y) [] p q e = absurd (cc)
alike (suc n) (a ∷ x) (b ∷ y) (c ∷ z) p q e =
    let heads : a ≡ c = cc in
    let tails : take n x ≡ take n z = cc in
    by_ranked (a < b) (a ≡ b) (b < a) (nat_cmp a b) (ranked a b (nat_cmp a b) refl)
    (λ o l. by_ranked (b < c) (b ≡ c) (c < b) (nat_cmp b c) (ranked b c (nat_cmp b c) refl)
    (λ u m. absurd (omega arith))
    (λ u m. absurd (omega arith))
    (λ u m. absurd (let w : Greater ≡ Less = rw u at q in cc)))
    (λ o l. by_ranked (b < c) (b ≡ c) (c < b) (nat_cmp b c) (ranked b c (nat_cmp b c) refl)
    (λ u m. absurd (omega arith))
    (λ u m. let i = alike n x y z (rw o at p) (rw u at q) tails in rw (l, i) refl)
    (λ u m. absurd (let w : Greater ≡ Less = rw u at q in cc)))
    (λ o l. absurd (let w : Greater ≡ Less = rw o at p in cc))

-- what the first and the last share, each shares
all_alike : (n : ℕ) (names : List (List ℕ)) → Rise names
    → take n (first_of names) ≡ take n (slice_index_or names (length names - 1) []) → (k : ℕ) (d : List ℕ)
    → k < length names → take n (slice_index_or names k d) ≡ take n (first_of names)
all_alike n names rise e zero d l = ap (take n) (get_or_default names 0 d [] l)
all_alike n names rise e (suc k) d l = elim (cases_lt (suc k) (length names - 1)) [
  | inl m ↦
      rw (get_or_default names (suc k) d [] l)
      (alike n (first_of names) (slice_index_or names (suc k) []) (slice_index_or names (length names - 1) [])
      (rise 0 (suc k) [] (omega arith) l) (rise (suc k) (length names - 1) [] m (omega arith)) e)
  | inr m ↦
      let at : suc k ≡ length names - 1 = omega arith in
      rw (get_or_default names (suc k) d [] l, at) (sym e)
]

-- what the first and the last share is the front of all
pub share : (n : ℕ) (names : List (List ℕ)) (first last : List ℕ) → Rise names → first_of names ≡ first
    → slice_index_or names (length names - 1) [] ≡ last → n ≤ length first → take n first ≡ take n last → ShareFront n names
share n names first last rise x y l e = record { long = rw x l; same = all_alike n names rise (rw (x, y) e) }

-- any names share a front of no bytes
pub share_none : (names : List (List ℕ)) → ShareFront 0 names
share_none names = record { long = omega arith; same = λ k d l. refl }

-- each name has the bytes that all share
pub long_each : (n : ℕ) (names : List (List ℕ)) → ShareFront n names → (k : ℕ) (d : List ℕ) → k < length names
    → n ≤ length (slice_index_or names k d)
long_each n names b k d l =
    let s = ap length (b.same k d l) in
    let t = length-take-le n (first_of names) b.long in
    let u = length-take n (slice_index_or names k d) in
    omega arith
