-- Lists by the numbers of headers, which grow by one: the number of the header after each
-- (follow_more, follow_all), and the headers that are noted (chooses_plain, chooses_noted). The
-- rest says that such numbers and classes are in range, and what the list of a set holds.
use Rattle.std.proofs.Common.{◌≡◌, ◌∙◌, sym, ap, subst, ℕ, ◌+◌, ◌*◌, ◌/◌, ◌<◌, inl, inr, List, [], ◌∷◌, ◌++◌, length, get_or, Bool, true, false, Option, refl, arith}
use Rattle.std.proofs.lemmas.List.{get_or_append_left, get_or_default, length_push}
use Rattle.std.proofs.lemmas.List.Elements.{Contains-append_left, Contains-append_right, Contains-append_cases}
use Rattle.std.proofs.lemmas.Bool.{cases_order, cases_lt, false≢true}
use Rattle.romfs_rules.proofs.Lists.{one_in}
use Rattle.romfs_sets.proofs.Ranks.{rank_below}
use Rattle.romfs_sets.proofs.Listing.{places, last}
use Rattle.romfs_sets.specs.Sets.{rank}
use Rattle.romfs_sets.specs.Listed.{AreCollected}
use Rattle.romfs_rules.specs.Marks.{AreMarks, IsListOf}
use Rattle.romfs_sets.specs.Climb.{AreBelow}
use Rattle.romfs_sets.specs.Names.{AreClasses}
use Rattle.romfs_rules.specs.SameNames.{IsNextNumber, AreNextNumbers, AreChosen}

-- the list has, for each of the first headers, the number of the header after it
pub record AreNextSoFar (a heads next : List ℕ) (count : ℕ) : Type 0 where
  pub sized : length next ≡ count
  pub each : (i : ℕ) → i < count → IsNextNumber a heads (get_or heads i 0) (get_or next i 0)

module _ (a heads next : List ℕ) where
  -- with the number of the header after it, one header more has its next number
  pub follow_more : (count n : ℕ) → AreNextSoFar a heads next count
      → IsNextNumber a heads (get_or heads count 0) n → AreNextSoFar a heads (next ++ n ∷ []) (count + 1)
  follow_more count n w k = record {
    sized = length_push next n ∙ ap (λ x. x + 1) w.sized;
    each = λ i l. let s = w.sized in let g = length_push next n in elim (places next n i (omega arith)) [
      | inl p ↦ (let q = p.0 in rw (p.1) (w.each i (omega arith)))
      | inr p ↦ rw (p.1) (subst (λ z. IsNextNumber a heads (get_or heads z 0) n) (sym (p.0 ∙ s)) k)
    ];
  }

  -- after the last header the number for none is added, which leads to itself
  pub follow_all : (n : ℕ) → n ≡ length heads → AreNextSoFar a heads next (length heads) → AreNextNumbers a heads (next ++ n ∷ [])
  follow_all n e w = record {
    sized = length_push next n ∙ ap (λ x. x + 1) w.sized;
    last = ap (λ z. get_or (next ++ n ∷ []) z 0) (sym w.sized) ∙ last next n ∙ e;
    each = λ i l. let s = w.sized in rw (get_or_append_left next (n ∷ []) 0 i (omega arith)) (w.each i l);
  }

module _ (heads : List ℕ) (noted : List Bool) (count : ℕ) (found : List ℕ) (fits : count < length heads)
    (up : (i j : ℕ) → i < j → j < length heads → get_or heads i 0 < get_or heads j 0) (w : AreChosen heads noted count found) where
  -- a header that is not noted adds nothing to those chosen
  pub chooses_plain : get_or noted count false ≡ false → AreChosen heads noted (count + 1) found
  chooses_plain n = record {
    each = λ h c. (let r = w.each h c in let l = r.1 in (r.0, (let z = l in omega arith), r.2, r.3));
    all = λ i l m. elim (cases_order i count) [
      | inl e ↦ absurd (false≢true (sym n ∙ ap (λ z. get_or noted z false) (sym e) ∙ m))
      | inr (inl d) ↦ w.all i d m
      | inr (inr d) ↦ absurd (omega arith)
    ];
    rising = w.rising;
  }

  -- a header that is noted is added to those chosen
  pub chooses_noted : get_or noted count false ≡ true → AreChosen heads noted (count + 1) (found ++ get_or heads count 0 ∷ [])
  chooses_noted n =
      let grown = length_push found (get_or heads count 0) in
      record {
        each = λ h c. elim (Contains-append_cases found (get_or heads count 0 ∷ []) h c) [
          | inl d ↦ (let r = w.each h d in let l = r.1 in (r.0, (let z = l in omega arith), r.2, r.3))
          | inr d ↦ (count, omega arith, n, one_in _ h d)
        ];
        all = λ i l m. elim (cases_order i count) [
          | inl e ↦ Contains-append_right found (get_or heads count 0 ∷ []) (get_or heads i 0) (rw e (0, omega arith, refl))
          | inr (inl d) ↦ Contains-append_left found (get_or heads count 0 ∷ []) (get_or heads i 0) (w.all i d m)
          | inr (inr d) ↦ absurd (omega arith)
        ];
        rising = λ i j l k. elim (places found (get_or heads count 0) j k) [
          | inl p ↦ (let r = w.rising i j l p.0 in let a = p.1 in
              let b = get_or_append_left found (get_or heads count 0 ∷ []) 0 i (let q = p.0 in omega arith) in
              omega arith)
          | inr p ↦ (
              let q : i < length found = (let a = p.0 in omega arith) in
              let b = get_or_append_left found (get_or heads count 0 ∷ []) 0 i q in
              let r = w.each (get_or found i 0) (i, q, sym (get_or_default found i 0 (get_or found i 0) q)) in
              let d = up r.0 count r.1 fits in
              let g = r.3 in
              let a = p.1 in
              omega arith)
        ];
      }

-- each number that leads on leads to one of these numbers
pub next_below : {a heads next : List ℕ} → AreNextNumbers a heads next → AreBelow next (length next)
next_below {heads = heads} {next = next} n = let s = n.sized in record {
  sized = refl;
  each = λ k m. elim (cases_lt k (length heads)) [
    | inl i ↦ (let b = (n.each k i).below in omega arith)
    | inr i ↦ (let e : k ≡ length heads = omega arith in let b = ap (λ z. get_or next z 0) e ∙ n.last in omega arith)
  ];
}

-- each class is one of these numbers
pub class_below : {a heads next class : List ℕ} {key : ℕ → Option (List ℕ)}
    → AreNextNumbers a heads next → AreClasses key (length heads) class → AreBelow class (length next)
class_below {heads = heads} n c = let s = n.sized in let t = c.sized in record {
  sized = omega arith;
  each = λ k m. let b = c.below k (omega arith) in omega arith;
}

-- the list of a set's places holds the headers of the set inside the image, rising
pub lists_marks : (a : List ℕ) (P : ℕ → Type 0) (set : List Bool) (heads : List ℕ) → AreMarks a P set → AreCollected set (length set) heads
    → IsListOf a P heads
lists_marks a P set heads m w = record {
  each = λ h c. (
      let k = w.each c.0 c.1 in
      let e : h ≡ k.0 * 16 = sym c.2 ∙ sym (get_or_default heads c.0 0 h c.1) ∙ k.2 in
      rw e (m.each k.0 k.3).0);
  all = λ h p i q. (
      let s = m.sized in
      let l = i.1 in
      let t = m.all h p i in
      let b = rank_below set (h / 16) (length set) t (omega arith) in
      let n = w.count in
      let fits : rank set (h / 16) < length heads = omega arith in
      (rank set (h / 16), fits, sym (get_or_default heads (rank set (h / 16)) 0 h fits) ∙ w.place (h / 16) (omega arith) t ∙ q));
  rising = w.rising;
}
