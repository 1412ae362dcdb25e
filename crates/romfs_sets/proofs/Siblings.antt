-- The lists of the points that lead to each point, made from the last point down: each is put
-- before those of its list, so lists rise, and the others stay as they were (`listed_more`).
use Rattle.std.proofs.Common.{◌≡◌, ◌≢◌, ◌∙◌, sym, ap, subst, ℕ, ◌+◌, ◌<◌, ◌≤◌, ◌⊎◌, inl, inr, List, length, get_or, set, refl, arith}
use Rattle.std.proofs.lemmas.List.{get_or-set_same, get_or-set_other, length-set}
use Rattle.std.proofs.lemmas.Bool.{cases_eq}
use Rattle.romfs_sets.specs.Climb.{AreBelow, Ahead, here, later}

-- the lists of the points from `from` on
pub record AreListed (next first sibling : List ℕ) (from : ℕ) : Type 0 where
  pub firsts : length first ≡ length next
  pub siblings : length sibling ≡ length next
  pub past : (t : ℕ) → t < length next → from ≤ get_or first t 0
  pub rising : (x : ℕ) → x < length next → x < get_or sibling x 0
  pub same : (t x : ℕ) → t < length next → Ahead sibling (get_or first t 0) x → get_or next x 0 ≡ t
  pub whole : (x : ℕ) → from ≤ x → x < length next → Ahead sibling (get_or first (get_or next x 0) 0) x

module _ (next first sibling : List ℕ) (at : ℕ) (fits : at < length next) (b : AreBelow next (length next))
    (w : AreListed next first sibling (at + 1)) where
  more_sibling : List ℕ
  more_sibling = set sibling at (get_or first (get_or next at 0) 0)

  more_first : List ℕ
  more_first = set first (get_or next at 0) at

  kept : (x : ℕ) → x ≢ at → get_or more_sibling x 0 ≡ get_or sibling x 0
  unfolding more_sibling
  kept x d = get_or-set_other sibling at x _ 0 d

  sized : length more_sibling ≡ length sibling
  unfolding more_sibling
  sized = length-set sibling at _

  forth : {from x : ℕ} → at < from → Ahead sibling from x → Ahead more_sibling from x
  forth {from = from} l (here k) = here (let s = sized in omega arith)
  forth {from = from} {x = x} l (later k a) =
      let s = sized in
      let r = w.rising from (let e = w.siblings in omega arith) in
      later (omega arith) (subst (λ y. Ahead more_sibling y x) (sym (kept from (omega arith))) (forth (omega arith) a))

  back : {from x : ℕ} → at < from → Ahead more_sibling from x → Ahead sibling from x
  back {from = from} l (here k) = here (let s = sized in omega arith)
  back {from = from} {x = x} l (later k a) =
      let s = sized in
      let r = w.rising from (let e = w.siblings in omega arith) in
      later (omega arith) (subst (λ y. Ahead sibling y x) (kept from (omega arith)) (back (let e = kept from (omega arith) in
      omega arith) a))

  mine : get_or more_sibling at 0 ≡ get_or first (get_or next at 0) 0
  unfolding more_sibling
  mine = get_or-set_same sibling at _ 0 (let f = w.siblings in omega arith)

  listed_here : AreListed next more_first more_sibling at
  unfolding more_first
  listed_here =
      let to : get_or next at 0 < length next = b.each at fits in
      let here_first : get_or more_first (get_or next at 0) 0 ≡ at = get_or-set_same first (get_or next at 0) at 0 (let e = w.firsts in
      omega arith) in
      let other_first : (t : ℕ) → t ≢ get_or next at 0 → get_or more_first t 0 ≡ get_or first t 0 =
      λ t d. get_or-set_other first (get_or next at 0) t at 0 d in
      let here_sibling : get_or more_sibling at 0 ≡ get_or first (get_or next at 0) 0 = mine in
      let past : (t : ℕ) → t < length next → at < get_or first t 0 = λ t l. (let k = w.past t l in omega arith) in
      record {
        firsts = length-set first _ _ ∙ w.firsts;
        siblings = sized ∙ w.siblings;
        past = λ t l. elim (cases_eq t (get_or next at 0)) [
          | inl e ↦ rw e (let k = here_first in omega arith)
          | inr d ↦ (let k = past t l in let e = other_first t d in omega arith)
        ];
        rising = λ x l. elim (cases_eq x at) [
          | inl e ↦ rw e (let k = past (get_or next at 0) to in omega arith)
          | inr d ↦ (let k = w.rising x l in let e = kept x d in omega arith)
        ];
        same = λ t x l a. elim (cases_eq t (get_or next at 0)) [
          | inl e ↦ elim (first_case (subst (λ y. Ahead more_sibling y x) (ap (λ y. get_or more_first y 0) e ∙ here_first) a)) [
            | inl f ↦ ap (λ y. get_or next y 0) f ∙ sym e
            | inr c ↦ w.same (get_or next at 0) x to (back (past _ to) (subst (λ y. Ahead more_sibling y x) here_sibling c)) ∙ sym e
          ]
          | inr d ↦ w.same t x l (back (past t l) (subst (λ y. Ahead more_sibling y x) (other_first t d) a))
        ];
        whole = λ x l k. elim (cases_eq x at) [
          | inl e ↦ rw (e, here_first) (here {x = at} (let s = sized in let f = w.siblings in omega arith))
          | inr d ↦ (
              let a = w.whole x (omega arith) k in
              let i = b.each x k in
              elim (cases_eq (get_or next x 0) (get_or next at 0)) [
                | inl e ↦ subst (λ y. Ahead more_sibling y x) (sym (ap (λ y. get_or more_first y 0) e ∙ here_first))
                    (later (let s = sized in let f = w.siblings in omega arith)
                    (subst (λ y. Ahead more_sibling y x) (ap (λ y. get_or first y 0) e ∙ sym here_sibling)
                    (forth (past _ i) a)))
                | inr f ↦ subst (λ y. Ahead more_sibling y x) (sym (other_first _ f)) (forth (past _ i) a)
              ])
        ];
      }
    where
      first_case : {from x : ℕ} → Ahead more_sibling from x → (x ≡ from) ⊎ Ahead more_sibling (get_or more_sibling from 0) x
      first_case (here l) = inl refl
      first_case (later l a) = inr a

  -- with one point more put before those of its list, the lists are those from it on
  pub listed_more : AreListed next (set first (get_or next at 0) at) (set sibling at (get_or first (get_or next at 0) 0)) at
  unfolding more_first more_sibling
  listed_more = listed_here
