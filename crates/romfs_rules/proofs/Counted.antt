-- Counting links, as lists. One link counts for nothing, for the first or for a second (counts_none,
-- counts_first, counts_again). Tallied says which headers some link names, and which two do: of one
-- field more (counts_more), so of both of a slot (passes), and slots in no chain add nothing
-- (skipped_to). After the last slot, what two links name is known (all_twice).
use Rattle.std.proofs.Common.{◌≡◌, ◌≢◌, ◌∙◌, sym, ap, subst, ℕ, ◌+◌, ◌*◌, ◌/◌, ◌<◌, ◌⊎◌, inl, inr, List, length, get_or, set, replicate, Bool, true, false, Option, Some, refl, arith}
use Rattle.std.proofs.lemmas.List.{length-replicate, length-set}
use Rattle.std.proofs.lemmas.Bool.{cases_eq, cases_lt, true≢false}
use Rattle.romfs_format.specs.Fields.{root, IsInside, spec, cleared}
use Rattle.romfs_format.specs.Links.{Field, first_of, next_of, IsLink}
use Rattle.romfs_format.specs.Rules.{IsLinkedTwice}
use Rattle.romfs_rules.specs.Marks.{IsVolumeImage, IsMarked, AreMarks}
use Rattle.romfs_rules.specs.Leads.{IsTheOne}
use Rattle.romfs_rules.specs.Twice.{IsSlotOf, Counts, CountsBoth}
use Rattle.romfs_rules.specs.Leads.{IsInSomeChain}
use Rattle.romfs_sets.proofs.Unions.{over_to}
use Rattle.romfs_rules.proofs.Slots.{IsGap, twice_cleared, cleared_root, cleared_in_chain, inside_opened, cleared_opened}
use Rattle.romfs_rules.proofs.Standing.{opened, in_some_chain}
use Rattle.romfs_sets.proofs.Marks.{no_marks, newly_set, still_set, was_set}

-- what one link counts for
module _ (a : List ℕ) (to : Option ℕ) (once twice : List Bool) where
  -- a link to no header in the image counts for nothing
  pub counts_none : ((k : ℕ) → ¬ IsSlotOf a to k) → Counts a to once twice once twice
  counts_none n = record {
    once_sized = refl;
    twice_sized = refl;
    once_each = λ k. (λ o. inl o, elim [ inl o ↦ o | inr s ↦ absurd (n k s) ]);
    twice_each = λ k. (λ o. inl o, elim [ inl o ↦ o | inr s ↦ absurd (n k s.0) ]);
  }

  module _ (h : ℕ) (is : to ≡ Some h) (i : IsInside a h) where
    its_slot : (k : ℕ) → IsSlotOf a to k → k ≡ h / 16
    its_slot k s = let e : Some s.0 ≡ Some h = sym s.1 ∙ is in let f : s.0 ≡ h = cc in s.3 ∙ ap (λ y. y / 16) f

    -- the first link to a header in the image counts as one
    pub counts_first : h / 16 < length once → get_or once (h / 16) false ≡ false → Counts a to once twice (set once (h / 16) true) twice
    counts_first l m = record {
      once_sized = length-set once (h / 16) true;
      twice_sized = refl;
      once_each = λ k. (
        λ o. elim (was_set once (h / 16) k o) [ inl e ↦ inr (h, is, i, e) | inr q ↦ inl q ],
        elim [
          | inl q ↦ still_set once (h / 16) k l q
          | inr s ↦ subst (λ j. get_or (set once (h / 16) true) j false ≡ true) (sym (its_slot k s)) (newly_set once (h / 16) l)
        ],
      );
      twice_each = λ k. (
        λ o. inl o,
        elim [
          | inl q ↦ q
          | inr s ↦ absurd (true≢false (sym s.1 ∙ subst (λ j. get_or once j false ≡ false) (sym (its_slot k s.0)) m))
        ],
      );
    }

    -- a second one counts as two
    pub counts_again : h / 16 < length twice → get_or once (h / 16) false ≡ true → Counts a to once twice once (set twice (h / 16) true)
    counts_again l m = record {
      once_sized = refl;
      twice_sized = length-set twice (h / 16) true;
      once_each = λ k. (
        λ o. inl o,
        elim [ inl o ↦ o | inr s ↦ subst (λ j. get_or once j false ≡ true) (sym (its_slot k s)) m ],
      );
      twice_each = λ k. (
        λ o. elim (was_set twice (h / 16) k o) [
          | inl e ↦ inr ((h, is, i, e), subst (λ j. get_or once j false ≡ true) (sym e) m)
          | inr q ↦ inl q
        ],
        elim [
          | inl q ↦ still_set twice (h / 16) k l q
          | inr s ↦ subst (λ j. get_or (set twice (h / 16) true) j false ≡ true) (sym (its_slot k s.0)) (newly_set twice (h / 16) l)
        ],
      );
    }

module _ (a : List ℕ) where
  cleared_link : (f : Field) (h : ℕ) → IsLink a f h → cleared h ≡ h
  cleared_link (first_of d) h l = rw (l.1.0) (twice_cleared (spec a d))
  cleared_link (next_of g) h l = rw (l.2.1) (omega arith)

  -- the marks say which headers in the image a link of S names, and which of them two do
  pub record Tallied (S : Field → ℕ → Type 0) (once twice : List Bool) : Type 0 where
    pub once_sized : length once ≡ length a / 16
    pub twice_sized : length twice ≡ length a / 16
    pub once_each : (k : ℕ) → get_or once k false ≡ true → (f : Field) × S f (k * 16) × IsInside a (k * 16)
    pub once_all : (f : Field) (h : ℕ) → S f h → IsInside a h → IsMarked once h
    pub twice_each : (k : ℕ) → get_or twice k false ≡ true → (f g : Field) × (f ≢ g) × S f (k * 16) × S g (k * 16) × IsInside a (k * 16)
    pub twice_all : (f g : Field) (h : ℕ) → f ≢ g → S f h → S g h → IsInside a h → IsMarked twice h

  -- the links of S, and those of one more field
  abbrev pub With : (Field → ℕ → Type 0) → Field → Field → ℕ → Type 0
  With S g f h = S f h ⊎ ((f ≡ g) × IsLink a g h)

  module _ (S : Field → ℕ → Type 0) (g : Field) (fresh : (h : ℕ) → ¬ S g h) (to : Option ℕ) (once twice once_after twice_after : List Bool)
      (is : IsTheOne (IsLink a g) to) (c : Counts a to once twice once_after twice_after) (t : Tallied S once twice) where
    at_slot : (k : ℕ) → IsSlotOf a to k → IsLink a g (k * 16) × IsInside a (k * 16)
    at_slot k s =
        let l : IsLink a g s.0 = (is.each s.0).0 s.1 in
        let e : k * 16 ≡ s.0 = ap (λ y. y * 16) s.3 ∙ cleared_link g s.0 l in
        rw e (l, s.2)

    slot_of : (h : ℕ) → IsLink a g h → IsInside a h → IsSlotOf a to (h / 16)
    slot_of h l i = (h, (is.each h).1 l, i, refl)

    same_twice : (f d : Field) → (f ≢ d) → f ≡ g → d ≡ g → ⊥
    same_twice f d n p q = n (p ∙ sym q)

    -- counting the link of a field that was not counted tallies it with the others
    pub counts_more : Tallied (With S g) once_after twice_after
    counts_more = record {
      once_sized = c.once_sized ∙ t.once_sized;
      twice_sized = c.twice_sized ∙ t.twice_sized;
      once_each = λ k m. elim ((c.once_each k).0 m) [
        | inl o ↦ (let x = t.once_each k o in (x.0, inl x.1, x.2))
        | inr s ↦ (let x = at_slot k s in (g, inr (refl, x.0), x.1))
      ];
      once_all = λ f h s i. (c.once_each (h / 16)).1 (elim s [ inl o ↦ inl (t.once_all f h o i) | inr x ↦ inr (slot_of h x.1 i) ]);
      twice_each = λ k m. elim ((c.twice_each k).0 m) [
        | inl o ↦ (let x = t.twice_each k o in (x.0, x.1, x.2, inl x.3, inl x.4, x.5))
        | inr s ↦ (let x = t.once_each k s.1 in let y = at_slot k s.0 in
            (x.0, g, λ e. fresh (k * 16) (subst (λ z. S z (k * 16)) e x.1), inl x.1, inr (refl, y.0), x.2))
      ];
      twice_all = λ f d h n s u i. (c.twice_each (h / 16)).1 (elim s [
        | inl o ↦ elim u [
          | inl v ↦ inl (t.twice_all f d h n o v i)
          | inr y ↦ inr (slot_of h y.1 i, t.once_all f h o i)
        ]
        | inr x ↦ elim u [
          | inl v ↦ inr (slot_of h x.1 i, t.once_all d h v i)
          | inr y ↦ absurd (same_twice f d n x.0 y.0)
        ]
      ]);
    }

  same_tally : (S R : Field → ℕ → Type 0) (once twice : List Bool) → ((f : Field) (h : ℕ) → S f h → R f h)
      → ((f : Field) (h : ℕ) → R f h → S f h) → Tallied S once twice → Tallied R once twice
  same_tally S R once twice to from t = record {
    once_sized = t.once_sized;
    twice_sized = t.twice_sized;
    once_each = λ k m. (let x = t.once_each k m in (x.0, to x.0 (k * 16) x.1, x.2));
    once_all = λ f h s i. t.once_all f h (from f h s) i;
    twice_each = λ k m. (let x = t.twice_each k m in (x.0, x.1, x.2, to x.0 (k * 16) x.3, to x.1 (k * 16) x.4, x.5));
    twice_all = λ f g h n s u i. t.twice_all f g h n (from f h s) (from g h u) i;
  }

  -- the header that a field belongs to
  abbrev pub place_of : Field → ℕ
  place_of (first_of d) = d
  place_of (next_of h) = h

  -- the links of the headers below a slot
  abbrev pub Below : ℕ → Field → ℕ → Type 0
  Below slot f h = IsLink a f h × (place_of f < slot * 16)

  cleared_place : (f : Field) (h : ℕ) → IsLink a f h → cleared (place_of f) ≡ place_of f
  cleared_place (first_of d) h l = cleared_opened a d l.0
  cleared_place (next_of g) h l = cleared_in_chain a l.0 g l.1.in_chain

  inside_place : IsVolumeImage a → (f : Field) (h : ℕ) → IsLink a f h → IsInside a (place_of f)
  inside_place v (first_of d) h l = inside_opened a v d l.0
  inside_place v (next_of g) h l = l.2.0

  -- no marks are the tally below the root's slot, as no header there has a link
  pub none_tallied : IsVolumeImage a → (slot : ℕ) → slot ≡ root a / 16 → (once twice : List Bool)
      → once ≡ replicate (length a / 16) false → twice ≡ replicate (length a / 16) false
      → Tallied (Below slot) once twice
  none_tallied v slot e once twice o t = record {
    once_sized = ap length o ∙ length-replicate (length a / 16) false;
    twice_sized = ap length t ∙ length-replicate (length a / 16) false;
    once_each = λ k m. absurd (true≢false (sym m ∙ no_marks once (length a / 16) o k));
    once_all = λ f h s i. absurd (none f h s);
    twice_each = λ k m. absurd (true≢false (sym m ∙ no_marks twice (length a / 16) t k));
    twice_all = λ f g h n s u i. absurd (none f h s);
  }
    where
      none : (f : Field) (h : ℕ) → ¬ Below slot f h
      none f h x = let i = (inside_place v f h x.0).0 in let c = cleared_root a in let l = x.1 in omega arith

  abbrev Both : ℕ → Field → ℕ → Type 0
  Both slot = With (With (Below slot) (next_of (slot * 16))) (first_of (slot * 16))

  at_place : (slot : ℕ) (f : Field) (h : ℕ) → IsLink a f h → place_of f ≡ slot * 16 → Both slot f h
  at_place slot (first_of d) h l e = inr (ap first_of e, subst (λ y. IsLink a (first_of y) h) e l)
  at_place slot (next_of g) h l e = inl (inr (ap next_of e, subst (λ y. IsLink a (next_of y) h) e l))

  up : (slot : ℕ) (f : Field) (h : ℕ) → Both slot f h → Below (slot + 1) f h
  up slot f h (inl (inl x)) = (x.0, (let l = x.1 in omega arith))
  up slot f h (inl (inr x)) = (subst (λ y. IsLink a y h) (sym x.0) x.1, rw (x.0) (omega arith))
  up slot f h (inr x) = (subst (λ y. IsLink a y h) (sym x.0) x.1, rw (x.0) (omega arith))

  down : (slot : ℕ) (f : Field) (h : ℕ) → Below (slot + 1) f h → Both slot f h
  down slot f h x = elim (cases_eq (place_of f) (slot * 16)) [
    | inl e ↦ at_place slot f h x.0 e
    | inr n ↦ inl (inl (x.0, (let c = cleared_place f h x.0 in let l = x.1 in lower (place_of f) slot c l n)))
  ]
    where
      lower : (p n : ℕ) → cleared p ≡ p → p < (n + 1) * 16 → p ≢ n * 16 → p < n * 16
      lower p n c l z = omega arith

  first_next : (d h : ℕ) → first_of d ≡ next_of h → ⊥
  first_next d h e = cc

  -- counting both fields of the header at a slot gives the tally below the next slot
  pub passes : (slot : ℕ) (once twice once_after twice_after : List Bool)
      → CountsBoth a (slot * 16) once twice once_after twice_after → Tallied (Below slot) once twice
      → Tallied (Below (slot + 1)) once_after twice_after
  passes slot once twice once_after twice_after c t =
      same_tally (Both slot) (Below (slot + 1)) once_after twice_after (up slot) (down slot)
      (counts_more (With (Below slot) (next_of (slot * 16))) (first_of (slot * 16)) no_first_yet c.first
      c.once_between c.twice_between once_after twice_after c.is_first c.counts_first
      (counts_more (Below slot) (next_of (slot * 16)) (λ h x. no_less (slot * 16) x.1) c.next once twice
      c.once_between c.twice_between c.is_next c.counts_next t))
    where
      no_less : (n : ℕ) → ¬ (n < n)
      no_less n l = omega arith

      no_first_yet : (h : ℕ) → ¬ With (Below slot) (next_of (slot * 16)) (first_of (slot * 16)) h
      no_first_yet h (inl x) = no_less (slot * 16) x.1
      no_first_yet h (inr x) = first_next (slot * 16) (slot * 16) x.0

  place_chained : (f : Field) (h : ℕ) → IsLink a f h → (place_of f ≡ root a) ⊎ IsInSomeChain a (place_of f)
  place_chained (first_of d) h l = elim ((opened a d).0 l.0) [ inl e ↦ inl e | inr x ↦ inr x.0 ]
  place_chained (next_of g) h l = inr (in_some_chain a l.0 g l.1.opened l.1.in_chain)

  -- a run of slots after the root's whose headers are in no chain adds nothing to the tally
  pub skipped_to : {low high : ℕ} → IsVolumeImage a → (once twice : List Bool) → root a < low * 16
      → IsGap a (IsInSomeChain a) low high → Tallied (Below low) once twice → Tallied (Below high) once twice
  skipped_to {low} {high} v once twice r gap t = over_to (λ k. Tallied (Below k) once twice) low high gap.rising
      t (λ k n o x. same_tally (Below k) (Below (k + 1)) once twice
      (λ f h y. (y.0, (let z = y.1 in omega arith)))
      (λ f h y. (
        y.0,
        elim (cases_lt (place_of f) (k * 16)) [
          | inl z ↦ z
          | inr z ↦ (
              let e : place_of f ≡ k * 16 = (let p = cleared_place f h y.0 in let q = y.1 in omega arith) in
              absurd (elim (place_chained f h y.0) [
                | inl q ↦ (let d : k * 16 ≡ root a = sym e ∙ q in omega arith)
                | inr q ↦ gap.none k n o
                    (subst (λ i. IsInside a i) e (inside_place v f h y.0))
                    (subst (λ i. IsInSomeChain a i) e q)
              ]))
        ],
      )) x)

  -- after the last slot the second marks are those of the headers that two fields name
  pub all_twice : IsVolumeImage a → (once twice : List Bool) → Tallied (Below (length a / 16)) once twice
      → AreMarks a (IsLinkedTwice a) twice
  all_twice v once twice t = record {
    sized = t.twice_sized;
    each = λ k m. (let x = t.twice_each k m in ((x.0, x.1, x.2, x.3.0, x.4.0), x.5));
    all = λ h x i. t.twice_all x.0 x.1 h x.2 (x.3, within x.0 h x.3) (x.4, within x.1 h x.4) i;
  }
    where
      within : (f : Field) (h : ℕ) → IsLink a f h → place_of f < length a / 16 * 16
      within f h l = let i = (inside_place v f h l).1 in let c = cleared_place f h l in omega arith
