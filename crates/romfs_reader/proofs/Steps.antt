-- A step along a chain: what happens to the members that are left. At a header that is passed over
-- they stay the same (`goes`), at any other they are that one and the rest (`takes`), and each step
-- leaves a shorter chain (`falls`). These three speak of headers as read.
use Rattle.std.proofs.Common.{◌≡◌, ◌≢◌, sym, ap, subst, ℕ, zero, suc, ◌<◌, inl, inr, List, [], ◌∷◌, length, true, false, arith, refl}
use Rattle.romfs_format.specs.declared.head.Head.{Head}
use Rattle.romfs_format.specs.Fields.{IsInside, next}
use Rattle.romfs_format.specs.Heads.{head_of}
use Rattle.romfs_reader.specs.Readers.{passes_over, kept}
use Rattle.romfs_reader.specs.Walks.{chain_from, EndsWithin, places, members_from, IsWalk}
use Rattle.romfs_reader.proofs.Chain.{other}

-- a chain that ends within n headers also ends within n + 1
wider : (a : List ℕ) (n h : ℕ) → EndsWithin a n h → EndsWithin a (suc n) h
wider a zero h e = inl e
wider a (suc n) h (inl e) = inl e
wider a (suc n) h (inr x) = inr (x.0, x.1, wider a n (next a h) x.2)

same_walk : (a : List ℕ) (n h : ℕ) → EndsWithin a n h → chain_from a (suc n) h ≡ chain_from a n h
same_walk a zero h e = rw e refl
same_walk a (suc n) h (inl e) = rw e refl
same_walk a (suc n) h (inr x) = rw (other h x.0) (ap (λ hs. h ∷ hs) (same_walk a n (next a h) x.2))

-- a step can be made from h, which lies in the image, to a chain that ends within n headers
pub record Stepped (a : List ℕ) (n h : ℕ) : Type 0 where
  pub inside : IsInside a h
  pub walk : chain_from a n h ≡ h ∷ chain_from a n (next a h)
  pub ends : EndsWithin a n (next a h)

step : (a : List ℕ) (n h : ℕ) → h ≢ 0 → EndsWithin a n h → Stepped a n h
step a zero h z e = absurd (z e)
step a (suc n) h z (inl e) = absurd (z e)
step a (suc n) h z (inr x) = record {
  inside = x.1;
  walk = rw (other h z) (ap (λ hs. h ∷ hs) (sym (same_walk a n (next a h) x.2)));
  ends = wider a n (next a h) x.2;
}

module _ (a : List ℕ) (r d h : ℕ) (w : IsWalk a r h) where
  -- if the chain is over, no members are left
  pub at_end : h ≡ 0 → members_from a d h ≡ []
  at_end z = rw z (none (places a))
    where
      none : (n : ℕ) → kept a d (chain_from a n 0) ≡ []
      none zero = refl
      none (suc n) = refl

  -- if the chain is not over, its header lies in the image, and the walk can go on at the next
  pub on : h ≢ 0 → IsInside a h × IsWalk a r (next a h)
  on z = let s = step a (places a) h z w.ends in (s.inside, record { small = w.small; root = w.root; ends = s.ends })

  -- at a header that is passed over, the members left are those from the next header on
  pub over : h ≢ 0 → passes_over a d h ≡ true → members_from a d h ≡ members_from a d (next a h)
  over z p = let s = step a (places a) h z w.ends in rw (s.walk, p) refl

  -- at a header that is not passed over, it is the first of the members left
  pub take : h ≢ 0 → passes_over a d h ≡ false → members_from a d h ≡ head_of a h ∷ members_from a d (next a h)
  take z p = let s = step a (places a) h z w.ends in rw (s.walk, p) refl

  -- the chain from the next header on is shorter
  pub shorter : h ≢ 0 → length (chain_from a (places a) (next a h)) < length (chain_from a (places a) h)
  shorter z = let s = step a (places a) h z w.ends in rw s.walk (omega arith)

  -- a header as read that is not passed over is the first member left, and the walk can go on
  pub takes : (head : Head) → head ≡ head_of a h → h ≢ 0 → passes_over a d head.offset ≡ false
      → (members_from a d h ≡ head ∷ members_from a d head.next) × IsWalk a r head.next
  takes head e z p =
      subst (λ x. (members_from a d h ≡ x ∷ members_from a d x.next) × IsWalk a r x.next) (sym e)
      (take z (subst (λ x. passes_over a d x.offset ≡ false) e p), (on z).1)

  -- after a header as read that is passed over the same members are left, and the walk can go on
  pub goes : (head : Head) → head ≡ head_of a h → h ≢ 0 → passes_over a d head.offset ≡ true
      → (members_from a d head.next ≡ members_from a d h) × IsWalk a r head.next
  goes head e z p =
      subst (λ x. (members_from a d x.next ≡ members_from a d h) × IsWalk a r x.next) (sym e)
      (sym (over z (subst (λ x. passes_over a d x.offset ≡ true) e p)), (on z).1)

  -- after a header as read the chain is shorter
  pub falls : (head : Head) → head ≡ head_of a h → h ≢ 0 → length (chain_from a (places a) head.next) < length (chain_from a (places a) h)
  falls head e z = subst (λ x. length (chain_from a (places a) x.next) < length (chain_from a (places a) h)) (sym e) (shorter z)
