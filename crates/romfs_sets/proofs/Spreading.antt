-- Numbers for the slots of a set, by slot. They are kept by rank, which is among the numbers kept
-- (`kept_at`), so a look-up at the rank reads the slot's number (`word_is`), and a number put
-- there changes that of this slot alone (`put_is`).
use Rattle.std.proofs.Common.{◌≡◌, ◌≢◌, ◌∙◌, sym, ap, subst, ℕ, ◌<◌, inl, inr, List, length, Bool, true, false, cond, get_or, set, replicate, refl, arith}
use Rattle.std.proofs.lemmas.Bool.{cases_eq, cases_lt, true≢false}
use Rattle.std.proofs.lemmas.List.{get_or_past, length-set, get_or-set_same, get_or-set_other, same_lists, get_or-replicate, length-replicate}
use Rattle.std.proofs.lemmas.List.FromFn.{get_or-map-range_with_len, length-map-range_with_len}
use Rattle.romfs_sets.specs.Sets.{rank}
use Rattle.romfs_sets.specs.Words.{Words, word_at, words_by_slot}
use Rattle.romfs_sets.proofs.Ranks.{rank_below, rank_once}

-- each slot has a number, whether it is in the set or not
pub spread_length : (marks : List Bool) (words : List ℕ) → length (words_by_slot marks words) ≡ length marks
unfolding words_by_slot
spread_length marks words = length-map-range_with_len (word_at marks words) 0 (length marks)

spread_at : (marks : List Bool) (words : List ℕ) (k d : ℕ) → k < length marks → get_or (words_by_slot marks words) k d
    ≡ word_at marks words k
unfolding words_by_slot
spread_at marks words k d l = get_or-map-range_with_len (word_at marks words) 0 (length marks) k k d l (omega arith)

-- a slot of the set is below the number of slots
pub member_inside : (marks : List Bool) (k : ℕ) → get_or marks k false ≡ true → k < length marks
member_inside marks k m = elim (cases_lt k (length marks)) [ inl l ↦ l | inr l ↦ absurd (true≢false (sym m ∙ get_or_past marks k false l)) ]

-- of a slot of the set
module _ (marks : List Bool) (words : List ℕ) (k : ℕ) (m : get_or marks k false ≡ true) where
  number_fits : length words ≡ rank marks (length marks) → rank marks k < length words
  number_fits s = let r = rank_below marks k (length marks) m (member_inside marks k m) in omega arith

  -- the number of a slot of the set is the one kept at its rank
  pub word_is : get_or (words_by_slot marks words) k 0 ≡ get_or words (rank marks k) 0
  word_is = spread_at marks words k 0 (member_inside marks k m) ∙ ap (λ b. cond b (get_or words (rank marks k) 0) 0) m

  -- keeping a number at the rank of a slot of the set changes the number of that slot alone
  pub put_is : (v : ℕ) → rank marks k < length words → words_by_slot marks (set words (rank marks k) v)
      ≡ set (words_by_slot marks words) k v
  put_is v f = same_lists (words_by_slot marks (set words (rank marks k) v)) (set (words_by_slot marks words) k v)
      (spread_length marks (set words (rank marks k) v) ∙ sym (length-set (words_by_slot marks words) k v ∙ spread_length marks words))
      (λ j d l.
      let s : j < length marks = subst (λ x. j < x) (spread_length marks (set words (rank marks k) v)) l in
      spread_at marks (set words (rank marks k) v) j d s ∙ at j d s)
    where
      other : (j : ℕ) → j ≢ k → (b : Bool) → get_or marks j false ≡ b → word_at marks (set words (rank marks k) v) j ≡ word_at marks words j
      other j n true e = ap (λ x. cond (get_or marks j false) x 0)
          (get_or-set_other words (rank marks k) (rank marks j) v 0 (λ q. n (rank_once marks j k e m q)))
      other j n false e = ap (λ b. cond b (get_or (set words (rank marks k) v) (rank marks j) 0) 0) e
          ∙ sym (ap (λ b. cond b (get_or words (rank marks j) 0) 0) e)

      at : (j d : ℕ) → j < length marks → word_at marks (set words (rank marks k) v) j ≡ get_or (set (words_by_slot marks words) k v) j d
      at j d s = elim (cases_eq j k) [
        | inl q ↦ rw q (ap (λ b. cond b (get_or (set words (rank marks k) v) (rank marks k) 0) 0) m
            ∙ get_or-set_same words (rank marks k) v 0 f
            ∙ sym (get_or-set_same (words_by_slot marks words) k v d
            (rw (spread_length marks words) (member_inside marks k m))))
        | inr n ↦ other j n (get_or marks j false) refl ∙ sym (spread_at marks words j d s)
            ∙ sym (get_or-set_other (words_by_slot marks words) k j v d n)
      ]

-- of what holds a number by slot, a slot of its set is one of the set, and its rank is among the
-- numbers kept
pub kept_at : (marks : List Bool) (words : List ℕ) (kept : Words) (k : ℕ)
    → record { slots = marks; by_slot = words_by_slot marks words } ≡ kept → get_or kept.slots k false ≡ true
    → length words ≡ rank marks (length marks) → (get_or marks k false ≡ true) × (rank marks k < length words)
kept_at marks words kept k e m s =
    let member = ap (λ (w : Words). get_or w.slots k false) e ∙ m in
    (member, number_fits marks words k member s)

-- if only zeros are kept, each slot has the number 0
pub spread_none : (marks : List Bool) (words : List ℕ) (n : ℕ) → words ≡ replicate n 0 → words_by_slot marks words
    ≡ replicate (length marks) 0
spread_none marks words n e = same_lists (words_by_slot marks words) (replicate (length marks) 0)
    (spread_length marks words ∙ sym (length-replicate (length marks) 0)) (λ k d l.
    let s : k < length marks = subst (λ x. k < x) (spread_length marks words) l in
    spread_at marks words k d s ∙ zeros k (get_or marks k false) ∙ sym (get_or-replicate (length marks) k 0 d s))
  where
    nought : (i : ℕ) → get_or words i 0 ≡ 0
    nought i = elim (cases_lt i (length words)) [
      | inl l ↦ rw e (get_or-replicate n i 0 0 (let z : length words ≡ n = ap length e ∙ length-replicate n 0 in omega arith))
      | inr l ↦ get_or_past words i 0 l
    ]

    zeros : (k : ℕ) (b : Bool) → cond b (get_or words (rank marks k) 0) 0 ≡ 0
    zeros k true = nought (rank marks k)
    zeros k false = refl
