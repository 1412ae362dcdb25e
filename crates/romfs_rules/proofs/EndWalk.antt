-- The walk along a chain of hard links, as lists. Going is a walk under way (goes, passes) that
-- ends with the chain (arrives), at its own number (comes_back) or at another's (meets). Passing is
-- what it keeps of earlier marks. Found are the walks from slots so far, up to all (found_all).
use Rattle.std.proofs.Common.{◌≡◌, ◌≢◌, ◌∙◌, sym, ap, subst, ℕ, zero, suc, ◌+◌, ◌-◌, ◌*◌, ◌/◌, ◌<◌, ◌≤◌, ◌^◌, ◌⊎◌, inl, inr, List, [], ◌∷◌, ◌++◌, length, get_or, set, replicate, Bool, true, false, refl, arith, length-append}
use Rattle.std.specs.List.{sum_by}
use Rattle.std.proofs.lemmas.List.Sums.{sum_by-set}
use Rattle.std.proofs.lemmas.List.{get_or_past, get_or-replicate, length-replicate, get_or-set_same, get_or-set_other, length-set, get_or_at, get_or_append_left, get_or_default}
use Rattle.std.proofs.lemmas.Bool.{cases_eq, cases_lt, cases_order}
use Rattle.romfs_format.specs.declared.head.End.{End}
use Rattle.romfs_format.specs.declared.head.End.TheVariants.{AtDirectory, AtOther, Nowhere}
use Rattle.romfs_format.specs.Fields.{spec, cleared}
use Rattle.romfs_format.specs.Links.{IsHardLink, IsTarget, IsFinal, here, stays, follows, EndsAs}
use Rattle.romfs_format.specs.Chains.{IsSomeMember}
use Rattle.romfs_rules.specs.Marks.{AreMarks}
use Rattle.romfs_rules.proofs.Destined.{goes_on}
use Rattle.romfs_sets.specs.Words.{Words}
use Rattle.romfs_sets.proofs.Unions.{over_to}
use Rattle.romfs_rules.proofs.Slots.{IsGap, twice_cleared, cleared_destination}
use Rattle.romfs_rules.specs.Ends.{HasEnds, AreWalkedEnds, KnowsEnd, Passes, IsUnpassedTarget}

-- from within a closed set of hard links no chain leaves
never_leaves : (a : List ℕ) (S : ℕ → Type 0) (inside : (h : ℕ) → S h → IsHardLink a h × S (cleared (spec a h))) {h e : ℕ} → IsFinal a h e
    → ¬ S h
never_leaves a S inside (stays n) s = n (inside _ s).0
never_leaves a S inside (follows l f) s = never_leaves a S inside f (inside _ s).1

-- a hard link ends as its destination does
pub back : (a : List ℕ) (h : ℕ) (r : End) → IsHardLink a h → EndsAs a (cleared (spec a h)) r → EndsAs a h r
back a h AtDirectory l x = (x.0, follows l x.1, x.2)
back a h AtOther l x = (x.0, follows l x.1, x.2)
back a h Nowhere l x = no l x
  where
    no : {h : ℕ} → IsHardLink a h → ((e : ℕ) → ¬ IsFinal a (cleared (spec a h)) e) → (e : ℕ) → ¬ IsFinal a h e
    no l x e (stays n) = n l
    no l x e (follows m f) = x e f

-- the destination of a member that is a hard link is on a member's destination chain
pub first_target : (a : List ℕ) (h : ℕ) → IsSomeMember a h → IsHardLink a h → IsTarget a (cleared (spec a h))
first_target a h m l = (m.0, h, m.1, here l)

-- the destination of a hard link on a member's destination chain is on it too
pub next_target : (a : List ℕ) (h : ℕ) → IsTarget a h → IsHardLink a h → IsTarget a (cleared (spec a h))
next_target a h t l = (t.0, t.1, t.2, goes_on a t.3 l)

-- a walk is under way from one header to another, and what has its number ends as the other does
pub record Going (a : List ℕ) (ends : List End) (from at : ℕ) (marks : List ℕ) : Type 0 where
  pub sized : length marks ≡ length a / 16
  pub small : at < 2 ^ 32
  pub aligned : cleared at ≡ at
  pub high : (k : ℕ) → get_or marks k 0 ≤ length ends + 1
  pub past : (k n : ℕ) → get_or marks k 0 ≡ suc n → n < length ends → EndsAs a (k * 16) (get_or ends n AtDirectory)
  pub hard : (k : ℕ) → get_or marks k 0 ≡ length ends + 1 → IsHardLink a (k * 16)
  pub on : (k : ℕ) (r : End) → get_or marks k 0 ≡ length ends + 1 → EndsAs a at r → EndsAs a (k * 16) r
  pub start : (r : End) → EndsAs a at r → EndsAs a from r
  pub closed : (k : ℕ) → get_or marks k 0 ≡ length ends + 1
      → (cleared (spec a (k * 16)) ≡ at) ⊎ (get_or marks (cleared (spec a (k * 16)) / 16) 0 ≡ length ends + 1)

-- 1 if no walk passed, otherwise 0
abbrev pub fresh : ℕ → ℕ
fresh zero = 1
fresh (suc n) = 0

-- how many slots no walk passed
unfoldable pub unmarked : List ℕ → ℕ
unmarked marks = sum_by fresh marks

module _ (a : List ℕ) (ends : List End) where
  -- a walk begins at its header, with the marks of earlier walks
  pub goes : (from : ℕ) (marks : List ℕ) → length marks ≡ length a / 16 → from < 2 ^ 32 → cleared from ≡ from
      → HasEnds a marks ends → Going a ends from from marks
  goes from marks s l c h = record {
    sized = s;
    small = l;
    aligned = c;
    high = λ k. high k (get_or marks k 0) refl;
    past = λ k n e l. (h.each k n e).1;
    hard = λ k e. absurd (none k e);
    on = λ k r e x. absurd (none k e);
    start = λ r x. x;
    closed = λ k e. absurd (none k e);
  }
    where
      high : (k m : ℕ) → get_or marks k 0 ≡ m → m ≤ length ends + 1
      high k zero e = omega arith
      high k (suc n) e = let l = (h.each k n e).0 in omega arith

      none : (k : ℕ) → get_or marks k 0 ≡ length ends + 1 → ⊥
      none k e = let q : get_or marks k 0 ≡ suc (length ends) = omega arith in let l = (h.each k (length ends) q).0 in omega arith

  -- once it is known how the header ends that a walk came to, the end of this walk is known
  pub arrives : (from at : ℕ) (marks : List ℕ) (r : End) → Going a ends from at marks → EndsAs a at r → HasEnds a marks (ends ++ r ∷ [])
  arrives from at marks r g x = record { each = λ k n e. found k n e }
    where
      found : (k n : ℕ) → get_or marks k 0 ≡ suc n → (n < length (ends ++ r ∷ []))
          × EndsAs a (k * 16) (get_or (ends ++ r ∷ []) n AtDirectory)
      found k n e = elim (cases_order n (length ends)) [
        | inl q ↦ (
          let s = length-append ends (r ∷ []) in
              omega arith,
          rw (q, get_or_at ends r [] AtDirectory (length ends) refl)
              (g.on k r (e ∙ (let z : suc n ≡ length ends + 1 = omega arith in z)) x),
        )
        | inr (inl l) ↦ (
          let s = length-append ends (r ∷ []) in omega arith,
          rw (get_or_append_left ends (r ∷ []) AtDirectory n l)
              (g.past k n e l),
        )
        | inr (inr l) ↦ (let h = g.high k in absurd (omega arith))
      ]

  -- a walk that comes to its own number ends nowhere
  pub comes_back : (from at : ℕ) (marks : List ℕ) → Going a ends from at marks → get_or marks (at / 16) 0 ≡ length ends + 1
      → EndsAs a at Nowhere
  comes_back from at marks g m e f = never_leaves a S inside f (g.aligned, m)
    where
      S : ℕ → Type 0
      S h = (cleared h ≡ h) × (get_or marks (h / 16) 0 ≡ length ends + 1)

      inside : (h : ℕ) → S h → IsHardLink a h × S (cleared (spec a h))
      inside h s = (
        subst (λ y. IsHardLink a y) s.0 (g.hard (h / 16) s.1),
        (
          twice_cleared (spec a h),
          elim (subst (λ y. (cleared (spec a y) ≡ at) ⊎ (get_or marks (cleared (spec a y) / 16) 0 ≡ length
              ends + 1)) s.0 (g.closed (h / 16) s.1)) [
                | inl e ↦ rw e m
                | inr x ↦ x
              ],
        ),
      )

  module _ (from at : ℕ) (marks : List ℕ) (g : Going a ends from at marks) (l : IsHardLink a at) (z : get_or marks (at / 16) 0 ≡ 0) where
    fits : at / 16 < length marks
    fits = let i = l.0.1 in let s = g.sized in omega arith

    now_marked : get_or (set marks (at / 16) (length ends + 1)) (at / 16) 0 ≡ length ends + 1
    now_marked = get_or-set_same marks (at / 16) (length ends + 1) 0 fits

    -- a mark is the new one, or existed before
    by_mark : {Q : Type 0} (k v : ℕ) → get_or (set marks (at / 16) (length ends + 1)) k 0 ≡ v
        → (k * 16 ≡ at → length ends + 1 ≡ v → Q) → (get_or marks k 0 ≡ v → Q) → Q
    by_mark k v e new old = elim (cases_eq k (at / 16)) [
      | inl q ↦ new (ap (λ y. y * 16) q ∙ g.aligned) (sym now_marked ∙ ap (λ y. get_or (set marks (at / 16) (length ends + 1)) y 0) (sym q)
          ∙ e)
      | inr q ↦ old (sym (get_or-set_other marks (at / 16) k (length ends + 1) 0 q) ∙ e)
    ]

    kept : (k : ℕ) → get_or marks k 0 ≡ length ends + 1 → get_or (set marks (at / 16) (length ends + 1)) k 0 ≡ length ends + 1
    kept k e = elim (cases_eq k (at / 16)) [
      | inl q ↦ rw q now_marked
      | inr q ↦ get_or-set_other marks (at / 16) k (length ends + 1) 0 q
          ∙ e
    ]

    -- a hard link that no walk passed gets the number of this one, which goes on to its destination
    pub passes : spec a at < 2 ^ 32 → Going a ends from (cleared (spec a at)) (set marks (at / 16) (length ends + 1))
    passes w = record {
      sized = length-set marks (at / 16) (length ends + 1) ∙ g.sized;
      small = omega arith;
      aligned = twice_cleared (spec a at);
      high = λ k. by_mark k _ refl (λ p q. let d : get_or (set marks (at / 16) (length ends + 1)) k 0 ≡ length
          ends + 1 = sym q in omega arith) (λ q. rw (← q) (g.high k));
      past = λ k n e m. by_mark k (suc n) e (λ p q. absurd (omega arith)) (λ q. g.past k n q m);
      hard = λ k e. by_mark k _ e (λ p q. rw p l) (λ q. g.hard k q);
      on = λ k r e x. by_mark k _ e (λ p q. rw p (back a at r l x)) (λ q. g.on k r q (back a at r l x));
      start = λ r x. g.start r (back a at r l x);
      closed = λ k e. by_mark k _ e (λ p q. inl (rw p refl))
          (λ q. elim (g.closed k q) [ inl y ↦ inr (rw y now_marked) | inr y ↦ inr (kept _ y) ]);
    }

    -- a header that gets a number leaves fewer that no walk passed
    pub fewer : unmarked (set marks (at / 16) (length ends + 1)) < unmarked marks
    unfolding unmarked
    fewer =
        let s = sum_by-set fresh marks (at / 16) (length ends + 1) 0 fits in
        let u : fresh (get_or marks (at / 16) 0) ≡ 1 = ap fresh z in
        let v : fresh (length ends + 1) ≡ 0 = old (length ends + 1) (omega arith) in
        omega arith
      where
        old : (n : ℕ) → 0 < n → fresh n ≡ 0
        old zero h = absurd (omega arith)
        old (suc n) h = refl

  -- the number of an earlier walk says how the chain ends from there
  pub meets : {from at : ℕ} {marks : List ℕ} → Going a ends from at marks → (m : ℕ) → get_or marks (at / 16) 0 ≡ m
      → m ≢ 0 → m ≢ length ends + 1 → EndsAs a at (get_or ends (m - 1) AtDirectory)
  meets {at = at} g m e z o = let h = g.high (at / 16) in let q : m ≡ suc (m - 1) = omega arith in
      subst (λ y. EndsAs a y (get_or ends (m - 1) AtDirectory)) g.aligned (g.past (at / 16) (m - 1) (e ∙ q) (omega arith))

-- a walk that is under way has kept earlier marks, and marked where it began unless it is still
-- there
pub record Passing (from at : ℕ) (before marks : List ℕ) : Type 0 where
  pub sized : length marks ≡ length before
  pub kept : (k : ℕ) → get_or before k 0 ≢ 0 → get_or marks k 0 ≢ 0
  pub began : (from ≡ at) ⊎ (get_or marks (from / 16) 0 ≢ 0)

-- a walk that begins has changed no marks
pub passing : (from : ℕ) (marks : List ℕ) → Passing from from marks marks
passing from marks = record { sized = refl; kept = λ k h. h; began = inl refl }

set_mark : (marks : List ℕ) (i k n : ℕ) → i < length marks → get_or marks k 0 ≢ 0 → get_or (set marks i (n + 1)) k 0 ≢ 0
set_mark marks i k n l h e = elim (cases_eq k i) [
  | inl q ↦ (let s : get_or (set marks i (n + 1)) k 0 ≡ n + 1 = rw q (get_or-set_same marks i (n + 1) 0 l) in omega arith)
  | inr q ↦ h (sym (get_or-set_other marks i k (n + 1) 0 q) ∙ e)
]

-- a walk that marks its header, and goes on, keeps earlier marks
pub passing_on : (from at to n : ℕ) (before marks : List ℕ) → Passing from at before marks
    → at / 16 < length marks → Passing from to before (set marks (at / 16) (n + 1))
passing_on from at to n before marks p l = record {
  sized = length-set marks (at / 16) (n + 1) ∙ p.sized;
  kept = λ k h. set_mark marks (at / 16) k n l (p.kept k h);
  began = inr (elim p.began [
    | inl q ↦ (rw q (λ e. let s = get_or-set_same marks (at / 16) (n + 1) 0 l in omega arith))
    | inr h ↦ set_mark marks (at / 16) (from / 16) n l h
  ]);
}

-- a walk that ends at a marked header has passed where it began
pub passed_at : (from at : ℕ) (before marks : List ℕ) → Passing from at before marks → get_or marks (at / 16) 0 ≢ 0
    → Passes from before marks
passed_at from at before marks p h = record { sized = p.sized; kept = p.kept; passed = elim p.began [ inl q ↦ rw q h | inr x ↦ x ] }

-- a walk that ends elsewhere than it began has passed where it began
pub passed_on : (from at : ℕ) (before marks : List ℕ) → Passing from at before marks → (from ≡ at → ⊥) → Passes from before marks
passed_on from at before marks p h = record { sized = p.sized; kept = p.kept; passed = elim p.began [ inl q ↦ absurd (h q) | inr x ↦ x ] }

-- the ends of all walks are known, and no target in the slots before this one was left out
pub record Found (a walks : List ℕ) (ends : List End) (slot : ℕ) : Type 0 where
  pub sized : length walks ≡ length a / 16
  pub few : length ends ≤ slot
  pub known : HasEnds a walks ends
  pub passed : (k : ℕ) → k < slot → ¬ IsUnpassedTarget a walks k

-- before the first slot there is no walk, and no end to be known
pub found_none : (a : List ℕ) (n : ℕ) → n ≡ length a / 16 → Found a (replicate n 0) [] 0
found_none a n e = record {
  sized = length-replicate n 0 ∙ e;
  few = omega arith;
  known = record { each = λ k m q. absurd (let z = nought k in omega arith) };
  passed = λ k l. absurd (omega arith);
}
  where
    nought : (k : ℕ) → get_or {A = ℕ} (replicate n 0) k 0 ≡ 0
    nought k = elim (cases_lt k n) [
      | inl l ↦ get_or-replicate n k 0 0 l
      | inr l ↦ get_or_past (replicate n 0) k 0 (let z : length (replicate {A = ℕ} n 0) ≡ n = length-replicate n 0 in omega arith)
    ]

slot_of : (k : ℕ) → k * 16 / 16 ≡ k
slot_of k = omega arith

module _ (a walks : List ℕ) (ends : List End) (slot : ℕ) (f : Found a walks ends slot) where
  -- a walk from a slot, whose end is known, leaves no target out up to there
  pub found_more : (more : List ℕ) (r : End) → HasEnds a more (ends ++ r ∷ []) → Passes (slot * 16) walks more
      → Found a more (ends ++ r ∷ []) (slot + 1)
  found_more more r h p = record {
    sized = p.sized ∙ f.sized;
    few = (let l = length-append ends (r ∷ []) in let w = f.few in omega arith);
    known = h;
    passed = λ k l x. elim (cases_eq k slot) [
      | inl q ↦ (let z : get_or more k 0 ≢ 0 = rw (q, ← slot_of slot) p.passed in z x.1.1)
      | inr q ↦ p.kept k (λ e. f.passed k (omega arith) (x.0, (x.1.0, e))) x.1.1
    ];
  }

  -- a slot that holds no target without a walk needs none
  pub found_same : ¬ IsUnpassedTarget a walks slot → Found a walks ends (slot + 1)
  found_same same = record {
    sized = f.sized;
    few = (let w = f.few in omega arith);
    known = f.known;
    passed = λ k l. elim (cases_eq k slot) as (λ _. ¬ IsUnpassedTarget a walks k) [
      | inl q ↦ rw q same
      | inr q ↦ f.passed k (omega arith)
    ];
  }

  -- after the last slot each hard link on a member's destination chain has a walk whose end is
  -- known
  pub found_all : (slots : List Bool) → AreMarks a (IsTarget a) slots → length a / 16 ≤ slot
      → AreWalkedEnds a (record { slots = slots; by_slot = walks }) ends
  found_all slots m all = record {
    targets = m;
    sized = f.sized;
    known = f.known;
    all = λ h c x e. f.passed (h / 16) (let i = x.0.1 in omega arith) (rw (cleared_destination a c.3) (c, (x, e)));
  }

-- a run of slots whose headers are on no member's destination chain needs no walk
pub found_to : {a : List ℕ} {low high : ℕ} (walks : List ℕ) (ends : List End) → IsGap a (IsTarget a) low high
    → Found a walks ends low → Found a walks ends high
found_to {a} {low} {high} walks ends gap f = over_to (λ k. Found a walks ends k) low high gap.rising f
    (λ k n o x. found_same a walks ends k x (λ y. gap.none k n o y.1.0.0 y.0))

-- the number of a walk says where its chain ends
module _ (a : List ℕ) (walks : Words) (ends : List End) (at : ℕ) (k : KnowsEnd a walks ends at) where
  -- a hard link whose end is known is in the set
  pub known_slot : get_or walks.slots (at / 16) false ≡ true
  known_slot = k.known.targets.all at k.target k.hard.0

  module _ (walk : ℕ) (is : walk ≡ get_or walks.by_slot (at / 16) 0) where
    reads : get_or walks.by_slot (at / 16) 0 ≡ suc (walk - 1)
    reads = let m = k.known.all at k.target k.hard in omega arith

    -- the walk that passed it has its end in the list
    pub ended_in : walk - 1 < length ends
    ended_in = (k.known.known.each (at / 16) (walk - 1) reads).0

    -- the end of the walk that passed it is how its chain ends
    pub ended_as : (end : End) → end ≡ get_or ends (walk - 1) end → EndsAs a at end
    ended_as end e = subst (λ r. EndsAs a at r) (get_or_default ends (walk - 1) AtDirectory end ended_in
        ∙ sym e) (subst (λ y. EndsAs a y (get_or ends (walk - 1) AtDirectory))
        (cleared_destination a k.target.3) (k.known.known.each (at / 16) (walk - 1) reads).1)
