-- The places of the slots of a set, as a list that grows: of no slots there are none
-- (`collects_none`), each slot of the set adds its place at the end (`collects_marked`), and the
-- slots between are passed in one step (`collects_to`).
use Rattle.std.proofs.Common.{◌≡◌, ◌∙◌, sym, ap, ℕ, ◌+◌, ◌*◌, ◌<◌, ◌≤◌, ◌⊎◌, inl, inr, List, [], ◌∷◌, ◌++◌, length, get_or, Bool, true, false, refl, arith}
use Rattle.std.proofs.lemmas.List.{get_or_at, get_or_append_left, length_push}
use Rattle.std.proofs.lemmas.Bool.{cases_order, false≢true}
use Rattle.romfs_sets.proofs.Ranks.{rank_zero, rank_member, rank_other, rank_below}
use Rattle.romfs_sets.proofs.Unions.{over_to}
use Rattle.romfs_sets.specs.Sets.{rank, IsClear}
use Rattle.romfs_sets.specs.Listed.{AreCollected}

-- what is in a list with one more at its end is in the list, or is that one
pub places : (xs : List ℕ) (x k : ℕ) → k < length (xs ++ x ∷ [])
    → ((k < length xs) × (get_or (xs ++ x ∷ []) k 0 ≡ get_or xs k 0))
    ⊎ ((k ≡ length xs) × (get_or (xs ++ x ∷ []) k 0 ≡ x))
places xs x k l = let s = length_push xs x in elim (cases_order k (length xs)) [
  | inl e ↦ inr (e, rw e (get_or_at xs x [] 0 (length xs) refl))
  | inr (inl m) ↦ inl (m, get_or_append_left xs (x ∷ []) 0 k m)
  | inr (inr m) ↦ absurd (omega arith)
]

-- with one more at the end of a list, that one is at the old length
pub last : (xs : List ℕ) (x : ℕ) → get_or (xs ++ x ∷ []) (length xs) 0 ≡ x
last xs x = get_or_at xs x [] 0 (length xs) refl

module _ (set : List Bool) where
  -- of no slots there are no places
  pub collects_none : AreCollected set 0 []
  collects_none = record {
    count = sym (rank_zero set);
    few = omega arith;
    rising = λ i j l k. absurd (omega arith);
    each = λ i l. absurd (omega arith);
    place = λ k l m. absurd (omega arith);
  }

  module _ (slot : ℕ) (spots : List ℕ) (w : AreCollected set slot spots) where
    -- a slot that is not in the set adds no place
    pub collects_plain : get_or set slot false ≡ false → AreCollected set (slot + 1) spots
    collects_plain n = record {
      count = w.count ∙ sym (rank_other set slot n);
      few = (let f = w.few in omega arith);
      rising = w.rising;
      each = λ i l. (let r = w.each i l in let k = r.1 in (r.0, (let z = k in omega arith), r.2, r.3));
      place = λ k l m. elim (cases_order k slot) [
        | inl e ↦ absurd (false≢true (sym n ∙ ap (λ z. get_or set z false) (sym e) ∙ m))
        | inr (inl d) ↦ w.place k d m
        | inr (inr d) ↦ absurd (omega arith)
      ];
    }

    -- a slot of the set adds its place at the end
    pub collects_marked : get_or set slot false ≡ true → AreCollected set (slot + 1) (spots ++ slot * 16 ∷ [])
    collects_marked e = record {
      count = length_push spots (slot * 16) ∙ ap (λ x. x + 1) w.count ∙ sym (rank_member set slot e);
      few = (let f = w.few in let s = length_push spots (slot * 16) in omega arith);
      rising = λ i j l k. elim (places spots (slot * 16) j k) [
        | inl p ↦ (let r = w.rising i j l p.0 in let a = p.1 in
            let b = get_or_append_left spots (slot * 16 ∷ []) 0 i (let q = p.0 in omega arith) in omega arith)
        | inr p ↦ (
            let q : i < length spots = (let a = p.0 in omega arith) in
            let r = w.each i q in
            let a = p.1 in
            let b = get_or_append_left spots (slot * 16 ∷ []) 0 i q in
            let d = r.1 in
            let g = r.2 in
            omega arith)
      ];
      each = λ i l. elim (places spots (slot * 16) i l) [
        | inl p ↦ (let r = w.each i p.0 in let k = r.1 in (r.0, (let z = k in omega arith), p.1 ∙ r.2, r.3))
        | inr p ↦ (slot, omega arith, p.1, e)
      ];
      place = λ k l m. elim (cases_order k slot) [
        | inl d ↦ ap (λ z. get_or (spots ++ slot * 16 ∷ []) z 0) (ap (rank set) d ∙ sym w.count) ∙ last spots (slot * 16)
            ∙ ap (λ z. z * 16) (sym d)
        | inr (inl d) ↦ (
            let b = rank_below set k slot m d in
            let n = w.count in
            get_or_append_left spots (slot * 16 ∷ []) 0 (rank set k) (omega arith) ∙ w.place k d m)
        | inr (inr d) ↦ absurd (omega arith)
      ];
    }

  -- slots of which none is in the set add no places
  pub collects_to : (low high : ℕ) (spots : List ℕ) → low ≤ high → IsClear set low high → AreCollected set low spots
      → AreCollected set high spots
  collects_to low high spots l c w = over_to (λ k. AreCollected set k spots) low high l w
      (λ k n o x. collects_plain k spots x (c.each k n o))
