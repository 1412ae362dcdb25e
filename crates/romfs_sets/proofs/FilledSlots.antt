-- What falls into slots, key by key. Fell says it of the first keys: it holds of none (fell_none)
-- and with one key more, whether that falls within the slots (fell_within) or beyond them
-- (fell_beyond). After the last, a key that fell alone occurs once (all_fell).
use Rattle.std.proofs.Common.{◌≡◌, ◌∙◌, sym, ap, subst, ℕ, ◌+◌, ◌<◌, ◌≤◌, ◌⊎◌, inl, inr, List, Bool, true, false, length, get_or, refl, arith, get_or-set_other, get_or-set_same, length-set, slice_index}
use Rattle.std.specs.Prelude.{set}
use Rattle.std.proofs.lemmas.Bool.{cases_eq, cases_order}
use Rattle.std.proofs.lemmas.List.{get_or_past, get_or_default}
use Rattle.romfs_sets.specs.Slots.{slot_of, Falls, AreCrowded}
use Rattle.romfs_sets.proofs.Keyed.{below_or_at}

-- beyond the slots a set says that it has them all
abbrev at : List Bool → ℕ → Bool
at slots s = get_or slots s true

-- the first i keys fell: a slot that one fell into has some, and one that two fell into is crowded
pub record Fell (keys : List ℕ) (slots : ℕ) (some crowded : List Bool) (i : ℕ) : Type 0 where
  pub level : length some ≡ slots
  pub also : length crowded ≡ slots
  pub fell : (a : ℕ) → a < i → at some (slot_of (slice_index keys a) slots) ≡ true
  pub many : (a b : ℕ) → a < b → b < i → slot_of (slice_index keys a) slots ≡ slot_of (slice_index keys b) slots
      → at crowded (slot_of (slice_index keys b) slots) ≡ true

-- before the first key this many slots may say anything
pub fell_none : (keys : List ℕ) (slots : ℕ) (some crowded : List Bool) → length some ≡ slots → length crowded ≡ slots
    → Fell keys slots some crowded 0
fell_none keys slots some crowded l m = record {
  level = l;
  also = m;
  fell = λ a n. absurd (omega arith);
  many = λ a b n o. absurd (omega arith);
}

-- a set with one slot more has the slots that it had
keeps : (slots : List Bool) (s t : ℕ) → s < length slots → at slots t ≡ true → at (set slots s true) t ≡ true
keeps slots s t l h = elim (cases_eq t s) [
  | inl q ↦ ap (at (set slots s true)) q ∙ get_or-set_same slots s true true l
  | inr n ↦ get_or-set_other slots s t true true n ∙ h
]

module _ (keys : List ℕ) (slots : ℕ) (some crowded : List Bool) (i s : ℕ) (f : Fell keys slots some crowded i)
    (e : s ≡ slot_of (slice_index keys i) slots) where
  last : (b : ℕ) → b ≡ i → slot_of (slice_index keys b) slots ≡ s
  last b n = ap (λ x. slot_of (slice_index keys x) slots) n ∙ sym e

  module _ (some' crowded' : List Bool) (l : s < slots) (step : Falls some crowded s some' crowded') where
    there : s < length some
    there = rw f.level l

    too : s < length crowded
    too = rw f.also l

    either : (X : List Bool → Type 0) → X crowded → X (set crowded s true) → X crowded'
    either X one other = pick (get_or some s false) refl
      where
        pick : (b : Bool) → b ≡ get_or some s false → X crowded'
        pick true q = subst X (sym (step.again (sym q))) other
        pick false q = subst X (sym (step.first (sym q))) one

    -- a key whose slot exists has fallen once it is counted
    pub fell_within : Fell keys slots some' crowded' (i + 1)
    fell_within = record {
      level = ap length step.fell ∙ simp length-set f.level;
      also = either (λ xs. length xs ≡ slots) f.also (simp length-set f.also);
      fell = λ a m. elim (below_or_at a i m) [
        | inl n ↦ ap (λ xs. at xs (slot_of (slice_index keys a) slots)) step.fell ∙ keeps some s _ there (f.fell a n)
        | inr n ↦ ap (λ xs. at xs (slot_of (slice_index keys a) slots)) step.fell ∙ ap (at (set some s true)) (last a n)
            ∙ get_or-set_same some s true true there
      ];
      many = λ a b m n q. elim (below_or_at b i n) [
        | inl o ↦
            let was = f.many a b m o q in
            either (λ xs. at xs (slot_of (slice_index keys b) slots) ≡ true) was (keeps crowded s _ too was)
        | inr o ↦
            let had : at some s ≡ true = subst (λ t. at some t ≡ true) (q ∙ last b o) (f.fell a (omega arith)) in
            let before : get_or some s false ≡ true = get_or_default some s false true there ∙ had in
            ap (λ xs. at xs (slot_of (slice_index keys b) slots)) (step.again before) ∙ ap (at (set crowded s true)) (last b o)
            ∙ get_or-set_same crowded s true true too
      ];
    }

  -- a key whose slot does not exist has fallen with no slot changed
  pub fell_beyond : slots ≤ s → Fell keys slots some crowded (i + 1)
  fell_beyond l = record {
    level = f.level;
    also = f.also;
    fell = λ a m. elim (below_or_at a i m) [
      | inl n ↦ f.fell a n
      | inr n ↦ ap (at some) (last a n) ∙ get_or_past some s true (omega (arith, f.level))
    ];
    many = λ a b m n q. elim (below_or_at b i n) [
      | inl o ↦ f.many a b m o q
      | inr o ↦ ap (at crowded) (last b o) ∙ get_or_past crowded s true (omega (arith, f.also))
    ];
  }

-- after the last key, one that fell into its slot alone occurs once
pub all_fell : (keys : List ℕ) (slots : ℕ) (some crowded : List Bool) (i : ℕ) → length keys ≤ i → Fell keys slots some crowded i
    → AreCrowded keys crowded
all_fell keys slots some crowded i l f = record {
  once = λ k m alone j n e. one k m (subst (λ n. at crowded (slot_of (slice_index keys k) n) ≡ false) f.also alone) j n e (cases_order j k);
}
  where
    no : (b : Bool) → b ≡ true → b ≡ false → ⊥
    no true p q = absurd (cc)
    no false p q = absurd (cc)

    one : (k : ℕ) → k < length keys → at crowded (slot_of (slice_index keys k) slots) ≡ false → (j : ℕ) → j < length keys
        → slice_index keys j ≡ slice_index keys k → (j ≡ k) ⊎ ((j < k) ⊎ (k < j)) → j ≡ k
    one k m alone j n e (inl q) = q
    one k m alone j n e (inr (inl q)) = absurd (no _ (f.many j k q (omega arith) (ap (λ x. slot_of x slots) e)) alone)
    one k m alone j n e (inr (inr q)) = absurd (no _ (f.many k j q (omega arith) (ap (λ x. slot_of x slots) (sym e)))
        (ap (λ x. at crowded (slot_of x slots)) e ∙ alone))
