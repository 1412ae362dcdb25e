-- Walks over sets of slots. What holds at a slot and goes on from slot to slot holds at every later one (`over_to`). A union holds the
-- other set's slots below the current one (`united_more`), and is complete if none is left (`united_all`).
use Rattle.std.proofs.Common.{◌≡◌, ◌∙◌, sym, subst, ℕ, zero, suc, ◌+◌, ◌-◌, ◌<◌, ◌≤◌, ◌⊎◌, inl, inr, List, length, Bool, true, false, get_or, set, Option, Some, None, refl, arith}
use Rattle.std.proofs.lemmas.Bool.{cases_eq, cases_lt, true≢false}
use Rattle.std.proofs.lemmas.List.{length-set, get_or-set_same, get_or-set_other, get_or_past}
use Rattle.romfs_sets.specs.Sets.{IsClear, IsNextIn, IsNextSlot, IsNextOfEither, IsUnion}

-- what goes on from each slot to the next goes on over any number of slots
pub over : (P : ℕ → Type 0) (low count : ℕ) → P low → ((k : ℕ) → low ≤ k → k < low + count → P k → P (k + 1)) → P (low + count)
over P low zero p step = subst P (let e : low ≡ low + 0 = omega arith in e) p
over P low (suc n) p step =
    let q = over P low n p (λ k l m x. step k l (omega arith) x) in
    let r = step (low + n) (omega arith) (omega arith) q in
    let e : low + n + 1 ≡ low + suc n = omega arith in
    subst P e r

-- what goes on from each slot to the next goes on from one slot to any later one
pub over_to : (P : ℕ → Type 0) (low high : ℕ) → low ≤ high → P low → ((k : ℕ) → low ≤ k → k < high → P k → P (k + 1)) → P high
over_to P low high l p step =
    let e : low + (high - low) ≡ high = omega arith in
    subst P e (over P low (high - low) p (λ k m n x. step k m (omega arith) x))

-- both holds the slots of one, and those of other below n
pub record IsUnionBelow (n : ℕ) (one other both : List Bool) : Type 0 where
  pub sized : length both ≡ length one
  pub each : (k : ℕ) → get_or both k false ≡ true → (get_or one k false ≡ true) ⊎ (get_or other k false ≡ true)
  pub old : (k : ℕ) → get_or one k false ≡ true → get_or both k false ≡ true
  pub new : (k : ℕ) → k < n → get_or other k false ≡ true → get_or both k false ≡ true

module _ (one other : List Bool) where
  -- with none of the other set's slots added, a set is the union so far
  pub united_none : IsUnionBelow 0 one other one
  united_none = record { sized = refl; each = λ k m. inl m; old = λ k m. m; new = λ k l m. absurd (omega arith) }

  -- with the next slot of the other set added, the union is made up to that slot
  pub united_more : (from slot : ℕ) (both : List Bool) → length other ≡ length one
      → IsUnionBelow from one other both → IsNextIn other from slot
      → IsUnionBelow (slot + 1) one other (set both slot true)
  united_more from slot both same u n = record {
    sized = length-set both slot true ∙ u.sized;
    each = λ k m. elim (cases_eq k slot) [
      | inl e ↦ inr (subst (λ x. get_or other x false ≡ true) (sym e) n.is)
      | inr d ↦ u.each k (sym (get_or-set_other both slot k true false d) ∙ m)
    ];
    old = λ k m. elim (cases_eq k slot) [
      | inl e ↦ rw e (get_or-set_same both slot true false fits)
      | inr d ↦ get_or-set_other both slot k true false d ∙ u.old k m
    ];
    new = λ k l m. elim (cases_eq k slot) [
      | inl e ↦ rw e (get_or-set_same both slot true false fits)
      | inr d ↦ get_or-set_other both slot k true false d ∙ elim (cases_lt k from) [
        | inl b ↦ u.new k b m
        | inr b ↦ absurd (true≢false (sym m ∙ n.clear.each k b (omega arith)))
      ]
    ];
  }
    where
      fits : slot < length both
      fits = let s = u.sized in let h = n.high in omega arith

  -- if the other set has no more slots, the union is complete
  pub united_all : (from : ℕ) (both : List Bool) → IsUnionBelow from one other both → IsClear other from (length other)
      → IsUnion one other both
  united_all from both u c = record {
    sized = u.sized;
    each = u.each;
    old = u.old;
    new = λ k m. elim (cases_lt k from) [
      | inl b ↦ u.new k b m
      | inr b ↦ elim (cases_lt k (length other)) [
        | inl l ↦ absurd (true≢false (sym m ∙ c.each k b l))
        | inr l ↦ absurd (true≢false (sym m ∙ get_or_past other k false l))
      ]
    ];
  }

-- of a set and itself the next of either is the next of the set
pub next_of_one : (one : List Bool) (from : ℕ) (next : Option ℕ) → IsNextOfEither one one from next → IsNextSlot one from next
next_of_one one from None c = c.0
next_of_one one from (Some k) n = record { low = n.low; high = n.high; is = elim n.is [ inl x ↦ x | inr x ↦ x ]; clear = n.one_clear }
