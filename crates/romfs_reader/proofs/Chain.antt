-- The chain of a directory, walked along. If its headers lie in the image and none comes twice, it
-- ends within as many steps as the image has places for headers (`ends`), since there is no room
-- for one more (`no_room`); so the walk lists it position by position (`listed`).
use Rattle.std.proofs.Common.{◌≡◌, ◌≢◌, ◌∙◌, sym, ap, subst, ℕ, zero, suc, ◌+◌, ◌*◌, ◌/◌, ◌<◌, ◌≤◌, ◌==◌, ◌⊎◌, inl, inr, List, [], ◌∷◌, Some, false, arith, refl}
use Rattle.std.specs.Prelude.{slice_get}
use Rattle.std.proofs.lemmas.Bool.{cases_order}
use Rattle.std.proofs.lemmas.Bool.Decides.{nat_tests}
use Rattle.romfs_format.specs.Fields.{IsInside, next}
use Rattle.romfs_format.specs.Chains.{IsFirst, IsAt}
use Rattle.romfs_reader.specs.Readers.{IsListed}
use Rattle.romfs_reader.specs.Walks.{chain_from, EndsWithin, places}
use Rattle.romfs_reader.proofs.Pigeon.{no_room}

-- each position of a chain has one header
pub one_at : (a : List ℕ) (d n h g : ℕ) → IsAt a d n h → IsAt a d n g → h ≡ g
one_at a d zero h g x y = x.0 ∙ sym y.0
one_at a d (suc n) h g x y = x.2.1 ∙ ap (next a) (one_at a d n x.0 y.0 x.1 y.1) ∙ sym y.2.1

-- the offset of a header in a chain is a multiple of 16
pub aligned : (a : List ℕ) (d n h : ℕ) → IsAt a d n h → h ≡ h / 16 * 16
aligned a d zero h x = let e = x.0 in omega arith
aligned a d (suc n) h x = let e = x.2.1 in omega arith

-- no header of a chain has the offset 0
pub not_zero : (a : List ℕ) (d n h : ℕ) → IsAt a d n h → h ≢ 0
not_zero a d zero h x = x.1
not_zero a d (suc n) h x = x.2.2

-- a chain that has a header at one position has one at each position before it
pub at_before : (a : List ℕ) (d n k h : ℕ) → k ≤ n → IsAt a d n h → (g : ℕ) × IsAt a d k g
at_before a d zero k h l x = let e : 0 ≡ k = omega arith in (h, subst (λ m. IsAt a d m h) e x)
at_before a d (suc n) k h l x = elim (cases_order k (suc n)) [
  | inl e ↦ (h, subst (λ m. IsAt a d m h) (sym e) x)
  | inr (inl s) ↦ at_before a d n k x.0 (omega arith) x.1
  | inr (inr s) ↦ absurd (omega arith)
]

apart : (n : ℕ) → (n < 0) ⊎ (0 < n) → n ≢ 0
apart n (inl l) e = omega arith
apart n (inr l) e = omega arith

-- a number other than 0 fails the test for 0
pub other : (n : ℕ) → n ≢ 0 → (n == 0) ≡ false
other n z = grind (arith, nat_tests)

-- the chain of d stays in the image, and no header comes twice
pub record IsGood (a : List ℕ) (d : ℕ) : Type 0 where
  pub once : (i j h : ℕ) → IsAt a d i h → IsAt a d j h → i ≡ j
  pub inside : (n h : ℕ) → IsAt a d n h → IsInside a h

-- the chain of d begins at h, or is empty if h is 0
pub record IsStart (a : List ℕ) (d h : ℕ) : Type 0 where
  pub some : h ≢ 0 → IsFirst a d h
  pub only : (g : ℕ) → IsFirst a d g → g ≡ h

module _ (a : List ℕ) (d start : ℕ) (good : IsGood a d) (begins : IsStart a d start) where
  place : ℕ → ℕ
  place zero = start
  place (suc n) = next a (place n)

  place_of : (n h : ℕ) → IsAt a d n h → h ≡ place n
  unfolding place
  place_of zero h x = begins.only h x
  place_of (suc n) h x = x.2.1 ∙ ap (next a) (place_of n x.0 x.1)

  at_place : (n k h : ℕ) → k ≤ n → IsAt a d n h → IsAt a d k (place k)
  at_place n k h l x = let g = at_before a d n k h l x in subst (λ y. IsAt a d k y) (place_of k g.0 g.1) g.1

  slot_below : (k : ℕ) → IsAt a d k (place k) → place k / 16 < places a
  slot_below k x = let i = good.inside k (place k) x in let j = i.1 in omega arith

  full : IsAt a d (places a) (place (places a)) → ⊥
  full x = no_room (places a) (λ k. place k / 16)
      (λ i l. slot_below i (at_place (places a) i _ l x))
      (λ i j l k e.
      let p = at_place (places a) i _ (omega arith) x in
      let q = at_place (places a) j _ k x in
      let ep = aligned a d i (place i) p in
      let eq = aligned a d j (place j) q in
      let same : place j ≡ place i = omega arith in
      let t = good.once i j (place i) p (subst (λ y. IsAt a d j y) same q) in
      omega arith)

  go : (m n : ℕ) → n + m ≡ places a → (place n ≢ 0 → IsAt a d n (place n)) → EndsWithin a m (place n)
  unfolding place
  go zero n e x = elim (cases_order (place n) 0) [
    | inl z ↦ z
    | inr o ↦ (let s : n ≡ places a = omega arith in absurd (full (subst (λ k. IsAt a d k (place k)) s (x (apart (place n) o)))))
  ]
  go (suc m) n e x = elim (cases_order (place n) 0) [
    | inl z ↦ inl z
    | inr o ↦ (let nz = apart (place n) o in
        let y = x nz in
        let i = good.inside n (place n) y in
        inr (nz, i, go m (suc n) (omega arith) (λ z. (place n, y, (i, refl, z)))))
  ]

  -- the chain ends within as many headers as the image has places for
  pub ends : EndsWithin a (places a) start
  unfolding place
  ends = go (places a) 0 (omega arith) begins.some

  -- the chain from position n on, walked along
  onto : (m n at : ℕ) → EndsWithin a m at → (at ≢ 0 → IsAt a d n at) → (k h : ℕ) → slice_get (chain_from a m at) k ≡ Some h
      → IsAt a d (n + k) h
  onto zero n at e x k h g = absurd (cc)
  onto (suc m) n at (inl z) x k h g = let s : slice_get {X = ℕ} [] k ≡ Some h = rw z at g in absurd (cc)
  onto (suc m) n at (inr y) x zero h g =
      let s : slice_get (at ∷ chain_from a m (next a at)) zero ≡ Some h = rw (other at y.0) at g in
      let e : at ≡ h = cc in
      let p : n ≡ n + zero = omega arith in
      subst (λ q. IsAt a d q h) p (subst (λ q. IsAt a d n q) e (x y.0))
  onto (suc m) n at (inr y) x (suc k) h g =
      let s : slice_get (chain_from a m (next a at)) k ≡ Some h = rw (other at y.0) at g in
      let p : suc n + k ≡ n + suc k = omega arith in
      subst (λ q. IsAt a d q h) p (onto m (suc n) (next a at) y.2 (λ z. (at, x y.0, (y.1, refl, z))) k h s)

  no_start : (n k h at : ℕ) → at ≡ 0 → at ≡ place n → IsAt a d (n + k) h → ⊥
  no_start n k h at z p y =
      let g = at_before a d (n + k) n h (omega arith) y in
      let e = place_of n g.0 g.1 in
      not_zero a d n g.0 g.1 (e ∙ sym p ∙ z)

  back : (m n at : ℕ) → EndsWithin a m at → at ≡ place n → (k h : ℕ) → IsAt a d (n + k) h → slice_get (chain_from a m at) k ≡ Some h
  unfolding place
  back zero n at z p k h y = absurd (no_start n k h at z p y)
  back (suc m) n at (inl z) p k h y = absurd (no_start n k h at z p y)
  back (suc m) n at (inr e) p zero h y =
      let s : n + zero ≡ n = omega arith in
      let q = place_of n h (subst (λ x. IsAt a d x h) s y) in
      rw (other at e.0) (ap Some (p ∙ sym q))
  back (suc m) n at (inr e) p (suc k) h y =
      let s : n + suc k ≡ suc n + k = omega arith in
      rw (other at e.0) (back m (suc n) (next a at) e.2 (ap (next a) p) k h (subst (λ x. IsAt a d x h) s y))

  -- the headers that the walk from the start lists are those of the chain, position by position
  pub listed : IsListed a d (chain_from a (places a) start)
  unfolding place
  listed = record {
    each = λ n h. (
      λ g. (let s : 0 + n ≡ n = omega arith in subst (λ x. IsAt a d x h) s (onto (places a) 0 start ends begins.some n h g)),
      λ y. (let s : n ≡ 0 + n = omega arith in back (places a) 0 start ends refl n h (subst (λ x. IsAt a d x h) s y)),
    );
  }
