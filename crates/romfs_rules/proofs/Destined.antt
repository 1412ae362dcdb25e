-- The walk over destination chains, as lists. Walks is one walk, which marks what it comes to
-- (marks_on); Reaches is the scan over slots that follows members' hard links (passes, skips).
-- Marks that are closed hold whole chains (whole), so finally all targets (all_targets).
use Rattle.std.proofs.Common.{◌≡◌, ◌∙◌, sym, ap, replicate, subst, ℕ, ◌+◌, ◌*◌, ◌/◌, ◌^◌, ◌<◌, ◌⊎◌, inl, inr, List, length, get_or, set, Bool, true, false, arith}
use Rattle.std.proofs.lemmas.List.{length-set, length-replicate}
use Rattle.std.proofs.lemmas.Bool.{cases_eq, true≢false}
use Rattle.romfs_format.specs.Fields.{IsInside, spec}
use Rattle.romfs_format.specs.Chains.{IsSomeMember}
use Rattle.romfs_format.specs.Links.{IsHardLink, destination, IsDestination, here, there, IsTarget}
use Rattle.romfs_rules.specs.Marks.{IsMarked, AreMarks}
use Rattle.romfs_rules.specs.Targets.{IsFollowed, IsClosed, FollowsLink}
use Rattle.romfs_rules.specs.Leads.{IsInSomeChain}
use Rattle.romfs_sets.proofs.Unions.{over_to}
use Rattle.romfs_rules.proofs.Slots.{IsGap, twice_cleared, cleared_in_chain}
use Rattle.romfs_rules.proofs.Standing.{member_in_chain}
use Rattle.romfs_sets.proofs.Marks.{unmarked, no_marks, marks_fall, newly_set, still_set, was_set}

-- the destination of a hard link on a destination chain is on that chain too
pub goes_on : (a : List ℕ) {h g : ℕ} → IsDestination a h g → IsHardLink a g → IsDestination a h (destination a g)
goes_on a (here l) m = there l (here m)
goes_on a (there l d) m = there l (goes_on a d m)

hard : (a : List ℕ) {h g : ℕ} → IsDestination a h g → IsHardLink a h
hard a (here l) = l
hard a (there l d) = l

module _ (a : List ℕ) where
  -- the walk along one header's destinations is at another; each marked hard link but that is
  -- followed
  pub record Walks (from at : ℕ) (old marks : List Bool) : Type 0 where
    pub sized : length marks ≡ length a / 16
    pub small : at < 2 ^ 32
    pub place : (at ≡ from) ⊎ IsDestination a from at
    pub kept : (k : ℕ) → get_or old k false ≡ true → get_or marks k false ≡ true
    pub only : (k : ℕ) → get_or marks k false ≡ true → (get_or old k false ≡ true) ⊎ (IsDestination a from (k * 16) × IsInside a (k * 16))
    pub start : (at ≡ from) ⊎ IsFollowed a marks from
    pub closed : (k : ℕ) → get_or marks k false ≡ true → IsHardLink a (k * 16) → (k * 16 ≡ at) ⊎ IsFollowed a marks (k * 16)

  -- the destination gets a mark
  module _ (from at : ℕ) (old marks : List Bool) (w : Walks from at old marks)
      (to : ℕ) (is : to ≡ destination a at) (l : IsHardLink a at) (i : IsInside a to) (small : to < 2 ^ 32) where
    clean : to / 16 * 16 ≡ to
    clean = rw is (twice_cleared (spec a at))

    fits : to / 16 < length marks
    fits = let s = w.sized in let j = i.1 in omega arith

    led : IsDestination a from to
    led = subst (λ y. IsDestination a from y) (sym is)
        (elim w.place [ inl e ↦ subst (λ y. IsDestination a y (destination a at)) e (here l) | inr d ↦ goes_on a d l ])

    now_followed : (h : ℕ) → h ≡ at → IsFollowed a (set marks (to / 16) true) h
    now_followed h e = subst (λ y. IsFollowed a (set marks (to / 16) true) y) (sym e) (inl (rw (← is) (newly_set marks (to / 16) fits)))

    stays_followed : (h : ℕ) → IsFollowed a marks h → IsFollowed a (set marks (to / 16) true) h
    stays_followed h (inl m) = inl (still_set marks (to / 16) (destination a h / 16) fits m)
    stays_followed h (inr n) = inr n

    -- a destination inside the image gets a mark, and the walk moves there
    pub marks_on : Walks from to old (set marks (to / 16) true)
    marks_on = record {
      sized = length-set marks (to / 16) true ∙ w.sized;
      small = small;
      place = inr led;
      kept = λ k m. still_set marks (to / 16) k fits (w.kept k m);
      only = λ k m. elim (was_set marks (to / 16) k m) [
        | inl e ↦ inr (rw e (rw clean (led, i)))
        | inr o ↦ w.only k o
      ];
      start = inr (elim w.start [ inl e ↦ now_followed from (sym e) | inr x ↦ stays_followed from x ]);
      closed = λ k m h. elim (was_set marks (to / 16) k m) [
        | inl e ↦ inl (rw e clean)
        | inr o ↦ inr (elim (w.closed k o h) [ inl e ↦ now_followed (k * 16) e | inr x ↦ stays_followed (k * 16) x ])
      ];
    }

    -- a destination that is newly marked leaves fewer without a mark
    pub fewer : get_or marks (to / 16) false ≡ false → unmarked (set marks (to / 16) true) < unmarked marks
    fewer u = let s = marks_fall marks (to / 16) fits u in omega arith

  -- marks that are closed hold the whole chain of what is followed, as far as it lies in the image
  pub whole : (marks : List Bool) → IsClosed a marks → {h g : ℕ} → IsDestination a h g → IsFollowed a marks h → IsInside a g
      → IsMarked marks g
  whole marks c (here l) f i = elim f [ inl m ↦ m | inr n ↦ absurd (n i) ]
  whole marks c (there {h = h} l d) f i = whole marks c d (onward (hard a d)) i
    where
      onward : IsHardLink a (destination a h) → IsFollowed a marks (destination a h)
      onward m = elim f [
        | inl x ↦ subst (λ y. IsFollowed a marks y) (twice_cleared (spec a h))
            (c.each (destination a h / 16) x (subst (λ y. IsHardLink a y) (sym (twice_cleared (spec a h))) m))
        | inr n ↦ absurd (n m.0)
      ]

  -- the marks are of targets and closed, and the members below a slot that are hard links are
  -- followed
  pub record Reaches (slot : ℕ) (marks : List Bool) : Type 0 where
    pub sized : length marks ≡ length a / 16
    pub each : (k : ℕ) → get_or marks k false ≡ true → IsTarget a (k * 16) × IsInside a (k * 16)
    pub closed : IsClosed a marks
    pub below : (k : ℕ) → k < slot → IsHardLink a (k * 16) → IsSomeMember a (k * 16) → IsFollowed a marks (k * 16)

  -- before the first slot nothing is marked or followed
  pub none_reached : (marks : List Bool) → marks ≡ replicate (length a / 16) false → Reaches 0 marks
  none_reached marks e = record {
    sized = ap length e ∙ length-replicate (length a / 16) false;
    each = λ k m. absurd (true≢false (sym m ∙ no_marks marks (length a / 16) e k));
    closed = record { each = λ k m l. absurd (true≢false (sym m ∙ no_marks marks (length a / 16) e k)) };
    below = λ k l. absurd (omega arith);
  }

  lifted : (old new : List Bool) (from h : ℕ) → FollowsLink a from old new → IsFollowed a old h → IsFollowed a new h
  lifted old new from h f (inl m) = inl (f.kept (destination a h / 16) m)
  lifted old new from h f (inr n) = inr n

  -- a slot whose member was followed is done
  pub passes : (slot : ℕ) (old new : List Bool) → IsSomeMember a (slot * 16)
      → FollowsLink a (slot * 16) old new → IsClosed a new → Reaches slot old → Reaches (slot + 1) new
  passes slot old new m f c r = record {
    sized = f.sized ∙ r.sized;
    each = λ k x. elim (f.only k x) [ inl o ↦ r.each k o | inr d ↦ ((m.0, slot * 16, m.1, d.0), d.1) ];
    closed = c;
    below = λ k l h n. elim (cases_eq k slot) [
      | inl e ↦ (let at_slot : IsHardLink a (slot * 16) = subst (λ y. IsHardLink a (y * 16)) e h in rw e (f.followed at_slot))
      | inr d ↦ lifted old new (slot * 16) (k * 16) f (r.below k (omega arith) h n)
    ];
  }

  -- a slot without a member that is a hard link is done as it is
  pub skips : (slot : ℕ) (marks : List Bool) → ¬ (IsHardLink a (slot * 16) × IsSomeMember a (slot * 16)) → Reaches slot marks
      → Reaches (slot + 1) marks
  skips slot marks z r = record {
    sized = r.sized;
    each = r.each;
    closed = r.closed;
    below = λ k l h n. elim (cases_eq k slot) [
      | inl e ↦ absurd (z (subst (λ y. IsHardLink a (y * 16) × IsSomeMember a (y * 16)) e (h, n)))
      | inr d ↦ r.below k (omega arith) h n
    ];
  }

  -- a run of slots whose headers are in no chain is done as it is
  pub skipped_to : {low high : ℕ} (marks : List Bool) → IsGap a (IsInSomeChain a) low high → Reaches low marks → Reaches high marks
  skipped_to {low} {high} marks gap r = over_to (λ k. Reaches k marks) low high gap.rising r
      (λ k n o x. skips k marks (λ y. gap.none k n o y.0.0 (member_in_chain a (k * 16) y.1)) x)

  -- after the last slot the marks are those of all headers on members' destination chains
  pub all_targets : (marks : List Bool) → Reaches (length a / 16) marks → AreMarks a (IsTarget a) marks
  all_targets marks r = record { sized = r.sized; each = r.each; all = all }
    where
      all : (g : ℕ) → IsTarget a g → IsInside a g → IsMarked marks g
      all g (d, h, m, x) i =
          let l = hard a x in
          let c : h / 16 * 16 ≡ h = cleared_in_chain a d h m.in_chain in
          let b : h / 16 < length a / 16 = (let j = l.0.1 in omega arith) in
          whole marks r.closed x (subst (λ y. IsFollowed a marks y) c
          (r.below (h / 16) b (subst (λ y. IsHardLink a y) (sym c) l)
          (subst (λ y. IsSomeMember a y) (sym c) (d, m)))) i
