-- Which breach is named first: on a header the rules are tried by number (one_tried, first_broken), the headers upward by slot (scan_more,
-- asked_next, scan_all). The first breach is below the root, inside, or past the end (breach_..); otherwise the depth is checked
-- (fault_by_depth, kept_by_depth), and finally the attributes (fault_by_trailer, sound_by_trailer).
use Rattle.std.proofs.Common.{◌≡◌, ◌∙◌, sym, subst, ℕ, ◌+◌, ◌*◌, ◌/◌, ◌<◌, ◌≤◌, ◌↔◌, ◌⊎◌, inl, inr, List, length, Bool, true, false, get_or, Option, Some, None, refl, arith, lit<, lit≤}
use Rattle.std.proofs.lemmas.Bool.{cases_order, cases_lt, false≢true}
use Rattle.romfs_format.specs.declared.rule.Rule.{Rule}
use Rattle.romfs_format.specs.declared.rule.Rule.TheVariants.{Short, Magic, FullSize, BadSum, VolumeName, NoRoot, Outside, NameOpen, NameBad, DataOutside, TargetLong, LinkedTwice, SameName, LinkLoop, LinkDirectory, MajorLarge, HeaderSum, TooDeep, Attributes}
use Rattle.romfs_format.specs.declared.limits.TheConstants.{HEAD_SIZE}
use Rattle.romfs_format.specs.Fields.{root, image, IsInside, cleared}
use Rattle.romfs_format.specs.Chains.{IsSomeMember}
use Rattle.romfs_format.specs.Links.{IsTarget, IsReached}
use Rattle.romfs_format.specs.declared.rule.Profile.{Profile}
use Rattle.romfs_format.specs.declared.rule.Profile.TheVariants.{Usual}
use Rattle.romfs_format.specs.Profiles.{asks_sums}
use Rattle.romfs_format.specs.Rules.{IsVolume, BreaksHeader, Breaks, IsUsed, rule_number, stage, IsNamedBefore, IsFault, IsSound}
use Rattle.romfs_format.proofs.Faults.{one_rule}
use Rattle.romfs_rules.specs.Marks.{HasSlot, IsVolumeImage, AreMarks, IsElsewhere}
use Rattle.romfs_rules.specs.Leads.{IsInSomeChain}
use Rattle.romfs_sets.specs.Sets.{IsNextInEither}
use Rattle.romfs_rules.specs.Headers.{IsAsked}
use Rattle.romfs_sets.proofs.Unions.{over_to}
use Rattle.romfs_rules.proofs.Slots.{IsGap, clear_gap, root_slot, cleared_root, cleared_in_chain, cleared_destination, slot_inside}
use Rattle.romfs_format.specs.declared.rule.ImageFault.{ImageFault}
use Rattle.romfs_rules.specs.Outside.{IsLeast, IsBeforeRoot, IsPastEnd}
use Rattle.romfs_rules.specs.Judge.{IsHeaderRule, KeepsBefore, KeepsHeaderRules, IsFirstRule, IsFirstAt, KeepsBelow, IsFirstInside, KeepsAllHeaderRules, IsFirstBreach, KeepsToDepth}
use Rattle.romfs_rules.proofs.Standing.{reached, member_in_chain}
use Rattle.romfs_rules.proofs.Judging.{root_elsewhere}

-- a fact of every rule, by its part in the order
by_part : (Q : Rule → Type 0) → ((r : Rule) → rule_number r < 6 → Q r) → ((r : Rule) → IsHeaderRule r → Q r) → Q TooDeep → Q Attributes
    → (r : Rule) → Q r
by_part Q v h d t Short = v Short (lit< tt)
by_part Q v h d t Magic = v Magic (lit< tt)
by_part Q v h d t FullSize = v FullSize (lit< tt)
by_part Q v h d t BadSum = v BadSum (lit< tt)
by_part Q v h d t VolumeName = v VolumeName (lit< tt)
by_part Q v h d t NoRoot = v NoRoot (lit< tt)
by_part Q v h d t Outside = h Outside (lit≤ tt, lit< tt)
by_part Q v h d t NameOpen = h NameOpen (lit≤ tt, lit< tt)
by_part Q v h d t NameBad = h NameBad (lit≤ tt, lit< tt)
by_part Q v h d t DataOutside = h DataOutside (lit≤ tt, lit< tt)
by_part Q v h d t TargetLong = h TargetLong (lit≤ tt, lit< tt)
by_part Q v h d t LinkedTwice = h LinkedTwice (lit≤ tt, lit< tt)
by_part Q v h d t SameName = h SameName (lit≤ tt, lit< tt)
by_part Q v h d t LinkLoop = h LinkLoop (lit≤ tt, lit< tt)
by_part Q v h d t LinkDirectory = h LinkDirectory (lit≤ tt, lit< tt)
by_part Q v h d t MajorLarge = h MajorLarge (lit≤ tt, lit< tt)
by_part Q v h d t HeaderSum = h HeaderSum (lit≤ tt, lit< tt)
by_part Q v h d t TooDeep = d
by_part Q v h d t Attributes = t

-- a fact of every rule of file headers, a field for each: so a proof that leaves out a rule does not
-- pass
pub record OfEach (Q : Rule → Type 0) : Type 0 where
  pub outside : Q Outside
  pub name_open : Q NameOpen
  pub name_bad : Q NameBad
  pub data_outside : Q DataOutside
  pub target_long : Q TargetLong
  pub linked_twice : Q LinkedTwice
  pub same_name : Q SameName
  pub link_loop : Q LinkLoop
  pub link_directory : Q LinkDirectory
  pub major_large : Q MajorLarge
  pub header_sum : Q HeaderSum

-- it is a fact of any rule of file headers
pub by_rule : (Q : Rule → Type 0) → OfEach Q → (r : Rule) → IsHeaderRule r → Q r
by_rule Q of Short x = absurd (omega arith)
by_rule Q of Magic x = absurd (omega arith)
by_rule Q of FullSize x = absurd (omega arith)
by_rule Q of BadSum x = absurd (omega arith)
by_rule Q of VolumeName x = absurd (omega arith)
by_rule Q of NoRoot x = absurd (omega arith)
by_rule Q of Outside x = of.outside
by_rule Q of NameOpen x = of.name_open
by_rule Q of NameBad x = of.name_bad
by_rule Q of DataOutside x = of.data_outside
by_rule Q of TargetLong x = of.target_long
by_rule Q of LinkedTwice x = of.linked_twice
by_rule Q of SameName x = of.same_name
by_rule Q of LinkLoop x = of.link_loop
by_rule Q of LinkDirectory x = of.link_directory
by_rule Q of MajorLarge x = of.major_large
by_rule Q of HeaderSum x = of.header_sum
by_rule Q of TooDeep x = absurd (omega arith)
by_rule Q of Attributes x = absurd (omega arith)

header_stage : (r : Rule) → IsHeaderRule r → stage r ≡ 6
header_stage = by_rule (λ r. stage r ≡ 6) (record {
  outside = refl;
  name_open = refl;
  name_bad = refl;
  data_outside = refl;
  target_long = refl;
  linked_twice = refl;
  same_name = refl;
  link_loop = refl;
  link_directory = refl;
  major_large = refl;
  header_sum = refl;
})

same : {P : Type 0} → P ↔ P
same = (λ x. x, λ x. x)

to_breaks : (profile : Profile) (b : List ℕ) (p : ℕ) (r : Rule) → IsHeaderRule r
    → BreaksHeader profile (image b) r p ↔ Breaks profile b r p
to_breaks profile b p = by_rule (λ r. BreaksHeader profile (image b) r p ↔ Breaks profile b r p) (record {
  outside = same;
  name_open = same;
  name_bad = same;
  data_outside = same;
  target_long = same;
  linked_twice = same;
  same_name = same;
  link_loop = same;
  link_directory = same;
  major_large = same;
  header_sum = same;
})

-- a profile that does not check sums requires of headers what the usual one does
pub as_usual : (profile : Profile) (a : List ℕ) → asks_sums profile ≡ false → KeepsAllHeaderRules Usual a → KeepsAllHeaderRules profile a
as_usual profile a skips k = record { keeps = λ s q x b. k.keeps s q x (same_there s q x b) }
  where
    same_there : (r : Rule) (h : ℕ) → IsHeaderRule r → BreaksHeader profile a r h → BreaksHeader Usual a r h
    same_there r h = by_rule (λ r. BreaksHeader profile a r h → BreaksHeader Usual a r h) (record {
      outside = λ x. x;
      name_open = λ x. x;
      name_bad = λ x. x;
      data_outside = λ x. x;
      target_long = λ x. x;
      linked_twice = λ x. x;
      same_name = λ x. x;
      link_loop = λ x. x;
      link_directory = λ x. x;
      major_large = λ x. x;
      header_sum = λ x. absurd (false≢true (sym skips ∙ x.0));
    }) r

-- the rules of the volume header and the depth are the same in every profile
volume_kept : (profile : Profile) (b : List ℕ) → IsVolume b → (r : Rule) → rule_number r < 6 → (q : ℕ) → ¬ Breaks profile b r q
volume_kept profile b v Short l q x = v.keeps Short q l x
volume_kept profile b v Magic l q x = v.keeps Magic q l x
volume_kept profile b v FullSize l q x = v.keeps FullSize q l x
volume_kept profile b v BadSum l q x = v.keeps BadSum q l x
volume_kept profile b v VolumeName l q x = v.keeps VolumeName q l x
volume_kept profile b v NoRoot l q x = v.keeps NoRoot q l x
volume_kept profile b v Outside l q x = absurd (omega arith)
volume_kept profile b v NameOpen l q x = absurd (omega arith)
volume_kept profile b v NameBad l q x = absurd (omega arith)
volume_kept profile b v DataOutside l q x = absurd (omega arith)
volume_kept profile b v TargetLong l q x = absurd (omega arith)
volume_kept profile b v LinkedTwice l q x = absurd (omega arith)
volume_kept profile b v SameName l q x = absurd (omega arith)
volume_kept profile b v LinkLoop l q x = absurd (omega arith)
volume_kept profile b v LinkDirectory l q x = absurd (omega arith)
volume_kept profile b v MajorLarge l q x = absurd (omega arith)
volume_kept profile b v HeaderSum l q x = absurd (omega arith)
volume_kept profile b v TooDeep l q x = absurd (omega arith)
volume_kept profile b v Attributes l q x = absurd (omega arith)

-- of two breaches of these rules the one at the lower place is named, or by the lower number
before : (s r : Rule) (q p : ℕ) → IsHeaderRule s → IsHeaderRule r → IsNamedBefore s q r p
    → (q < p) ⊎ ((q ≡ p) × (rule_number s < rule_number r))
before s r q p hs hr (inl l) = let e = header_stage s hs in let f = header_stage r hr in absurd (omega arith)
before s r q p hs hr (inr x) = x.1

module _ (a : List ℕ) where
  -- a reached header is at a multiple of 16
  pub reached_cleared : (h : ℕ) → IsReached a h → cleared h ≡ h
  reached_cleared h r = elim ((reached a h).0 r) [
    | inl e ↦ rw e (cleared_root a)
    | inr (inl c) ↦ cleared_in_chain a (root a) h c
    | inr (inr (inl e)) ↦ cleared_in_chain a e.dir h e.in_chain
    | inr (inr (inr t)) ↦ cleared_destination a t.3
  ]

  member_reached : (h : ℕ) → IsSomeMember a h → IsReached a h
  member_reached h m = elim (member_in_chain a h m) [ inl c ↦ (reached a h).1 (inr (inl c)) | inr e ↦ (reached a h).1 (inr (inr (inl e))) ]

  used_reached : (h : ℕ) → IsUsed a h → IsReached a h
  used_reached h u = elim u.1 [ inl m ↦ member_reached h m | inr t ↦ inr (inr t) ]

  twice_reached : (h : ℕ) → BreaksHeader Usual a LinkedTwice h → IsReached a h
  twice_reached h (inl x) = inr (inl (x.0, x.3))
  twice_reached h (inr x) = inl x.0

  -- a header that breaks one of these rules is reached
  pub breach_reached : (profile : Profile) (h : ℕ) (r : Rule) → IsHeaderRule r → BreaksHeader profile a r h → IsReached a h
  breach_reached profile h = by_rule (λ r. BreaksHeader profile a r h → IsReached a h) (record {
    outside = λ x. x.0;
    name_open = λ x. x.0;
    name_bad = λ x. member_reached h x.0;
    data_outside = λ x. used_reached h x.0;
    target_long = λ x. used_reached h x.0;
    linked_twice = twice_reached h;
    same_name = λ x. member_reached h (x.1.1.0, x.1.1.2);
    link_loop = λ x. member_reached h x.0;
    link_directory = λ x. member_reached h x.0;
    major_large = λ x. used_reached h x.0;
    header_sum = λ x. x.1;
  })

-- the rules tried on a header one after the other
module _ (profile : Profile) (a : List ℕ) (h : ℕ) where
  -- a header that is not reached keeps all rules of file headers
  pub unreached : ¬ IsReached a h → KeepsHeaderRules profile a h
  unreached n = record { keeps = λ s x b. n (breach_reached a profile h s x b) }

  -- a header inside the image keeps the first of these rules
  pub none_tried : IsInside a h → KeepsBefore profile a h 7
  none_tried i = record {
    keeps = λ s x l b. let e : rule_number s ≡ rule_number
        Outside = (let m = x.0 in omega arith) in (subst (λ r. BreaksHeader profile a r h)
        (one_rule s Outside e) b).1 i;
  }

  -- a header that keeps the rules before one, and that one, keeps those before the next
  pub one_tried : (r : Rule) (n : ℕ) → rule_number r ≡ n → KeepsBefore profile a h n → ¬ BreaksHeader profile a r h
      → KeepsBefore profile a h (n + 1)
  one_tried r n e k m = record {
    keeps = λ s x l b. elim (cases_order (rule_number s) n) [
      | inl f ↦ m (subst (λ t. BreaksHeader profile a t h) (one_rule s r (f ∙ sym e)) b)
      | inr (inl o) ↦ k.keeps s x o b
      | inr (inr o) ↦ absurd (omega arith)
    ];
  }

  -- a rule that a header breaks is the first, if it keeps those before it
  pub first_broken : (r : Rule) (n : ℕ) → rule_number r ≡ n → IsHeaderRule r → KeepsBefore profile a h n
      → BreaksHeader profile a r h → IsFirstRule profile a h r
  first_broken r n e x k b = record { rule = x; broken = b; before = subst (λ m. KeepsBefore profile a h m) (sym e) k }

-- a scan over the slots, upward
module _ (profile : Profile) (a : List ℕ) (v : IsVolumeImage a) where
  -- if the root's header is elsewhere, the scan ends there
  root_first : (p : ℕ) → KeepsBelow profile a p → root a ≤ p → IsElsewhere a (root a) → p ≡ root a
  root_first p k l e = elim (cases_order p (root a)) [
    | inl q ↦ q
    | inr (inl m) ↦ absurd (omega arith)
    | inr (inr m) ↦ absurd ((k.keeps (root a) (root_slot a v (root a) refl) m).keeps LinkedTwice (lit≤ tt, lit< tt)
        (inr ((root_elsewhere a (root a) refl).0 e)))
  ]

  -- if the headers below a slot and the one at it keep these rules, those below the next slot do
  pub scan_more : (slot : ℕ) → KeepsBelow profile a (slot * 16) → KeepsHeaderRules profile a (slot * 16)
      → KeepsBelow profile a ((slot + 1) * 16)
  scan_more slot k h = record {
    keeps = λ g s l. elim (cases_order g (slot * 16)) [
      | inl q ↦ rw q h
      | inr (inl m) ↦ k.keeps g s m
      | inr (inr m) ↦ (let c = s.aligned in absurd (omega arith))
    ];
  }

  -- the headers of a run of slots after the root's that are not reached keep these rules
  pub scanned_to : {low high : ℕ} → root a < low * 16 → high ≤ length a / 16 → IsGap a (IsInSomeChain a) low high
      → IsGap a (IsTarget a) low high → KeepsBelow profile a (low * 16) → KeepsBelow profile a (high * 16)
  scanned_to {low} {high} r h chains targets k = over_to (λ n. KeepsBelow profile a (n * 16)) low high
      chains.rising k (λ n o p x. scan_more n x (unreached profile a (n * 16) (λ y.
      let i = slot_inside a n (omega arith) (omega arith) in
      elim ((reached a (n * 16)).0 y) [
        | inl e ↦ omega arith
        | inr (inl z) ↦ chains.none n o p i (inl z)
        | inr (inr (inl z)) ↦ chains.none n o p i (inr z)
        | inr (inr (inr z)) ↦ targets.none n o p i z
      ])))

  -- a slot of either set
  slot_reached : (headers targets : List Bool) → AreMarks a (IsInSomeChain a) headers
      → AreMarks a (IsTarget a) targets → (slot : ℕ)
      → (get_or headers slot false ≡ true) ⊎ (get_or targets slot false ≡ true)
      → HasSlot a (slot * 16) × IsReached a (slot * 16)
  slot_reached headers targets m t slot (inl x) = let y = m.each slot x in (
    record { inside = y.1; aligned = omega arith },
    elim y.0 [ inl z ↦ (reached a (slot * 16)).1 (inr (inl z)) | inr z ↦ (reached a (slot * 16)).1 (inr (inr (inl z))) ],
  )
  slot_reached headers targets m t slot (inr x) = let y = t.each slot x in (record { inside = y.1; aligned = omega arith }, inr (inr y.0))

  -- the scan may ask for the root's header
  pub asked_root : (h : ℕ) → h ≡ root a → IsAsked a h
  asked_root h e = record { slot = root_slot a v h e; reached = inl e; alone = λ x. e }

  -- the scan may ask for the next header of either set, and those below it keep these rules
  pub asked_next : {headers targets : List Bool} {from slot : ℕ} → AreMarks a (IsInSomeChain a) headers
      → AreMarks a (IsTarget a) targets → root a < from * 16 → KeepsBelow profile a (from * 16)
      → IsNextInEither headers targets from slot → IsAsked a (slot * 16) × KeepsBelow profile a (slot * 16)
  asked_next {headers} {targets} {from} {slot} m t b x n =
      let s = m.sized in
      let l = n.low in
      let h = n.high in
      let r = slot_reached headers targets m t slot n.is in
      let k = scanned_to b (omega arith) (clear_gap m l n.one_clear) (clear_gap t l n.other_clear) x in
      (record { slot = r.0; reached = r.1; alone = root_first (slot * 16) k (omega arith) }, k)

  none_below : KeepsBelow profile a (root a)
  none_below = record { keeps = λ h s l. let i = s.inside.0 in absurd (omega arith) }

  -- the fault of a header is the first inside the image, if those below it keep these rules
  pub at_slot : (f : ImageFault) (h : ℕ) → IsAsked a h → KeepsBelow profile a h
      → IsFirstAt profile a h f → IsFirstInside profile a f.rule f.place
  at_slot f h s k x = subst (IsFirstInside profile a f.rule) (sym x.place) (record { slot = s.slot; rule = x.rule; below = k })

  -- a fault of the root's header is the first inside the image
  pub at_root : (f : ImageFault) (h : ℕ) → h ≡ root a → IsFirstAt profile a h f → IsFirstInside profile a f.rule f.place
  at_root f h e = at_slot f h (asked_root h e) (rw e none_below)

  -- if the root's header keeps these rules, all below the slot after it do
  pub root_kept : (slot place : ℕ) → place ≡ root a → slot ≡ place / 16 + 1 → KeepsHeaderRules profile a place
      → KeepsBelow profile a (slot * 16)
  root_kept slot place t e k =
      let c = cleared_root a in
      let q : root a / 16 * 16 ≡ root a = c in
      let r : (root a / 16 + 1) * 16 ≡ slot * 16 = omega arith in
      subst (KeepsBelow profile a) r (scan_more (root a / 16)
      (subst (KeepsBelow profile a) (sym q) none_below)
      (subst (KeepsHeaderRules profile a) (t ∙ sym q) k))

  -- after the last slot all headers inside the image keep these rules
  pub scan_all : (slot : ℕ) → length a / 16 ≤ slot → KeepsBelow profile a (slot * 16) → KeepsBelow profile a (length a)
  scan_all slot m k = record { keeps = λ h s l. k.keeps h s (let c = s.aligned in let i = s.inside.1 in omega arith) }

-- the header is reached, and is before the root's
abbrev pub IsReachedBelow : List ℕ → ℕ → Type 0
IsReachedBelow a h = IsReached a h × IsBeforeRoot a h

-- the header is reached, and from the root's on it is not completely in the image
abbrev pub IsReachedAbove : List ℕ → ℕ → Type 0
IsReachedAbove a h = IsReached a h × IsPastEnd a h

least_is : (P : ℕ → Type 0) (least : Option ℕ) (p q : ℕ) → IsLeast P least → least ≡ Some p → P q → p ≤ q
least_is P least p q l e x = let w = l.whole q x in let f : w.0 ≡ p = cc in omega arith

no_least : (P : ℕ → Type 0) (least : Option ℕ) (q : ℕ) → IsLeast P least → least ≡ None → ¬ P q
no_least P least q l e x = let w = l.whole q x in cc

-- the first breach of all, by the least headers outside the image and the first breach inside
module _ (profile : Profile) (a : List ℕ) (below above : Option ℕ) (lb : IsLeast (IsReachedBelow a) below)
    (la : IsLeast (IsReachedAbove a) above) where
  -- the least reached header before the root's is the first breach
  pub breach_below : (p : ℕ) → below ≡ Some p → IsFirstBreach profile a Outside p
  breach_below p e = record {
    rule = (lit≤ tt, lit< tt);
    broken = (r.0, λ i. let m = r.1 in let j = i.0 in omega arith);
    first = λ s q hs b x. elim (before s Outside q p hs (lit≤ tt, lit< tt) x) [
      | inl l ↦ (let m = r.1 in let o = least_is (IsReachedBelow a) below p q lb e (breach_reached a profile q s hs b, omega arith) in
          omega arith)
      | inr y ↦ (let m = y.1 in let n = hs.0 in omega arith)
    ];
  }
    where
      r : IsReachedBelow a p
      r = lb.is p e

  module _ (none : below ≡ None) where
    high : (h : ℕ) → IsReached a h → root a ≤ h
    high h r = elim (cases_lt h (root a)) [ inl l ↦ absurd (no_least (IsReachedBelow a) below h lb none (r, l)) | inr m ↦ m ]

    -- if none is before the root's, the first breach inside the image is the first of all
    pub breach_inside : (r : Rule) (p : ℕ) → IsFirstInside profile a r p → IsFirstBreach profile a r p
    breach_inside r p f = record {
      rule = f.rule.rule;
      broken = f.rule.broken;
      first = λ s q hs b x. elim (before s r q p hs f.rule.rule x) [
        | inl l ↦ (
            let i = f.slot.inside.1 in
            let o = breach_reached a profile q s hs b in
            (f.below.keeps q (record { inside = (high q o, omega arith); aligned = reached_cleared a q o }) l).keeps s hs b)
        | inr y ↦ (f.rule.before.keeps s hs y.1 (subst (λ h. BreaksHeader profile a s h) y.0 b))
      ];
    }

    module _ (inside : KeepsBelow profile a (length a)) where
      far : (s : Rule) (q : ℕ) → IsHeaderRule s → BreaksHeader profile a s q → length a < q + HEAD_SIZE
      far s q hs b = elim (cases_lt (length a) (q + HEAD_SIZE)) [
        | inl l ↦ l
        | inr m ↦ (
            let o = breach_reached a profile q s hs b in
            absurd ((inside.keeps q (record { inside = (high q o, m); aligned = reached_cleared a q o }) (omega arith)).keeps s hs b))
      ]

      beyond : (s : Rule) (q : ℕ) → IsHeaderRule s → BreaksHeader profile a s q → IsReachedAbove a q
      beyond s q hs b = let o = breach_reached a profile q s hs b in (o, (high q o, far s q hs b))

      -- if none is before, and those inside keep these rules, the least past the end is the first
      -- breach
      pub breach_above : (p : ℕ) → above ≡ Some p → IsFirstBreach profile a Outside p
      breach_above p e = record {
        rule = (lit≤ tt, lit< tt);
        broken = ((la.is p e).0, λ i. let m = (la.is p e).1.1 in let j = i.1 in omega arith);
        first = λ s q hs b x. elim (before s Outside q p hs (lit≤ tt, lit< tt) x) [
          | inl l ↦ (let o = least_is (IsReachedAbove a) above p q la e (beyond s q hs b) in omega arith)
          | inr y ↦ (let m = y.1 in let n = hs.0 in omega arith)
        ];
      }

      -- if those inside keep these rules and no reached header is outside, all headers keep them
      pub no_breach : above ≡ None → KeepsAllHeaderRules profile a
      no_breach e = record { keeps = λ s q hs b. no_least (IsReachedAbove a) above q la e (beyond s q hs b) }

-- the fault of an image that keeps the rules of the volume header
module _ (profile : Profile) (b : List ℕ) (v : IsVolume b) where
  -- the first breach of a rule of file headers is the fault of the image
  pub fault_by_header : (r : Rule) (p : ℕ) → IsFirstBreach profile (image b) r p → IsFault profile b r p
  fault_by_header r p f = record {
    broken = (to_breaks profile b p r f.rule).0 f.broken;
    first = by_part (λ s. (q : ℕ) → Breaks profile b s q → ¬ IsNamedBefore s q r p)
        (λ s l q x. absurd (volume_kept profile b v s l q x))
        (λ s h q x. f.first s q h ((to_breaks profile b q s h).1 x))
        (λ q x. elim [
          | inl l ↦ (let e = header_stage r f.rule in omega arith)
          | inr y ↦ (let e = header_stage r f.rule in let g = y.0 in omega arith)
        ])
        (λ q x. elim [
          | inl l ↦ (let e = header_stage r f.rule in omega arith)
          | inr y ↦ (let e = header_stage r f.rule in let g = y.0 in omega arith)
        ]);
  }

  module _ (k : KeepsAllHeaderRules profile (image b)) where
    -- if all keep these rules, the least header that is too deep is the fault of the image
    pub fault_by_depth : (deep : Option ℕ) (p : ℕ) → IsLeast (BreaksHeader Usual (image b) TooDeep) deep → deep ≡ Some p
        → IsFault profile b TooDeep p
    fault_by_depth deep p d e = record {
      broken = d.is p e;
      first = by_part (λ s. (q : ℕ) → Breaks profile b s q → ¬ IsNamedBefore s q TooDeep p)
          (λ s l q x. absurd (volume_kept profile b v s l q x))
          (λ s h q x. absurd (k.keeps s q h ((to_breaks profile b q s h).1 x)))
          (λ q x. elim [
            | inl l ↦ omega arith
            | inr (f, inl l) ↦ (let o = least_is (BreaksHeader Usual (image b) TooDeep) deep p q d e x in omega arith)
            | inr (f, inr y) ↦ (let m = y.1 in omega arith)
          ])
          (λ q x. elim [
            | inl l ↦ omega arith
            | inr y ↦ (let g = y.0 in omega arith)
          ]);
    }

    -- if all keep these rules, and no header is too deep, the image breaks no rule but that of
    -- attributes
    pub kept_by_depth : (deep : Option ℕ) → IsLeast (BreaksHeader Usual (image b) TooDeep) deep → deep ≡ None → KeepsToDepth profile b
    kept_by_depth deep d e = record {
      keeps = by_part (λ s. (q : ℕ) → rule_number s < 18 → ¬ Breaks profile b s q)
          (λ s l q m x. volume_kept profile b v s l q x)
          (λ s h q m x. k.keeps s q h ((to_breaks profile b q s h).1 x))
          (λ q m x. no_least (BreaksHeader Usual (image b) TooDeep) deep q d e x)
          (λ q m x. omega arith);
    }

-- the fault of an image by its attributes, if it breaks no rule before
module _ (profile : Profile) (b : List ℕ) (k : KeepsToDepth profile b) where
  -- that of a trailer that is broken
  pub fault_by_trailer : (p : ℕ) → Breaks profile b Attributes p → IsFault profile b Attributes p
  fault_by_trailer p x = record {
    broken = x;
    first = λ s q y z. elim (cases_lt (rule_number s) 18) [
      | inl l ↦ k.keeps s q l y
      | inr l ↦ (let e = one_rule s Attributes (last s l) in last_first p x q (subst (λ r. Breaks profile b r q) e y)
          (subst (λ r. IsNamedBefore r q Attributes p) e z))
    ];
  }
    where
      last : (s : Rule) → 18 ≤ rule_number s → rule_number s ≡ 18
      last s l = by_part (λ s. 18 ≤ rule_number s → rule_number s ≡ 18) (λ r m n. absurd (omega arith))
          (λ r h n. let m = h.1 in absurd (omega arith)) (λ n. absurd (omega arith)) (λ n. refl) s l

      last_first : (p : ℕ) → Breaks profile b Attributes p → (q : ℕ) → Breaks profile b Attributes q
          → ¬ IsNamedBefore Attributes q Attributes p
      last_first p x q y (inl l) = omega arith
      last_first p x q y (inr (e, inl l)) = let i = x.2 in let j = y.2 in omega arith
      last_first p x q y (inr (e, inr z)) = let m = z.1 in omega arith

  -- none if that rule is kept too
  pub sound_by_trailer : ((p : ℕ) → ¬ Breaks profile b Attributes p) → IsSound profile b
  sound_by_trailer n = record {
    keeps = by_part (λ s. (q : ℕ) → ¬ Breaks profile b s q)
        (λ s l q x. k.keeps s q (omega arith) x)
        (λ s h q x. let m = h.1 in k.keeps s q (omega arith) x)
        (λ q x. k.keeps TooDeep q (lit< tt) x)
        n;
  }

  -- it is as long as a header
  pub long_enough : HEAD_SIZE ≤ length b
  long_enough = elim (cases_lt (length b) HEAD_SIZE) [ inl l ↦ absurd (k.keeps Short 0 (lit< tt) (l, refl)) | inr l ↦ l ]
