-- The least headers outside the image that are reached. Each reached header but the root's is named
-- by one inside (reached_named), so a scan over slots notes what each names (noted, scans), but for
-- those that name nothing (scanned_to). After the last slot the least is found (all_scanned).
use Rattle.std.proofs.Common.{◌≡◌, ◌≢◌, sym, ap, subst, ℕ, ◌+◌, ◌*◌, ◌/◌, ◌<◌, ◌≤◌, ◌⊎◌, inl, inr, List, length, false, Option, Some, None, refl, arith, leb}
use Rattle.std.proofs.lemmas.Bool.{cases_eq, cases_lt, le-leb}
use Rattle.romfs_format.specs.Fields.{root, word, IsInside, cleared}
use Rattle.romfs_format.specs.Chains.{IsSomeMember}
use Rattle.romfs_format.specs.Links.{Field, first_of, next_of, IsLink, IsHardLink, destination, IsDestination, here, there, IsTarget, IsReached}
use Rattle.romfs_rules.specs.Marks.{IsVolumeImage}
use Rattle.romfs_rules.specs.Leads.{IsTheOne}
use Rattle.romfs_rules.specs.Outside.{NamesDestination, NamesBySpec, Names, IsLeast, IsBeforeRoot, IsPastEnd, lesser, Notes, NotesOnBoth}
use Rattle.romfs_rules.specs.declared.outside.Outside.{Outside}
use Rattle.romfs_rules.proofs.Slots.{cleared_root, cleared_in_chain, inside_opened, cleared_opened, cleared_destination, IsGap}
use Rattle.romfs_rules.specs.Leads.{IsInSomeChain}
use Rattle.romfs_sets.proofs.Unions.{over_to}
use Rattle.romfs_rules.proofs.Standing.{opened, in_some_chain, member_in_chain}
use Rattle.romfs_rules.proofs.Destined.{goes_on}
use Rattle.std.proofs.lemmas.Bool.Decides.{nat_tests}
use Rattle.romfs_rules.proofs.Leads.{nowhere}

module _ (a : List ℕ) where
  -- the last hard link before a header on a destination chain
  last : (h g : ℕ) → IsDestination a h g → (p : ℕ) × IsHardLink a p × (g ≡ destination a p) × ((p ≡ h) ⊎ IsDestination a h p)
  last h g (here l) = (h, l, refl, inl refl)
  last h g (there l x) =
      let r = last (destination a h) g x in
      (r.0, r.1, r.2, elim r.3 [ inl e ↦ inr (subst (IsDestination a h) (sym e) (here l)) | inr y ↦ inr (there l y) ])

  destination_reached : (h g : ℕ) → NamesDestination a h g → IsReached a g
  destination_reached h g (inl m, l, e) = inr (inr (m.0, h, m.1, rw e (here l)))
  destination_reached h g (inr (d, m, x, y), l, e) = inr (inr (d, m, x, rw e (goes_on a y l)))

  -- what a header names, by a field or as a hard link, is reached
  pub names_reached : (h g : ℕ) → Names a h g → IsReached a g
  names_reached h g (inl x) = inr (inl (next_of h, x))
  names_reached h g (inr (inl x)) = inr (inl (first_of h, x))
  names_reached h g (inr (inr x)) = destination_reached h g x

  -- g is what some header inside leads to
  pub record IsLedTo (g : ℕ) : Type 0 where
    pub from : ℕ
    pub inside : IsInside a from
    pub slot : cleared from ≡ from
    pub names : Names a from g

  module _ (v : IsVolumeImage a) where
    link_named : (f : Field) (g : ℕ) → IsLink a f g → IsLedTo g
    link_named (first_of d) g x = record { from = d; inside = inside_opened a v d x.0; slot = cleared_opened a d x.0; names = inr (inl x) }
    link_named (next_of p) g (d, s, n) = record { from = p; inside = n.0; slot = cleared_in_chain a d p s.in_chain; names = inl (d, s, n) }

    target_named : (g : ℕ) → IsTarget a g → IsLedTo g
    target_named g (d, h, m, x) =
        let r = last h g x in
        elim r.3 [
          | inl e ↦ record {
            from = r.0;
            inside = r.1.0;
            slot = rw e (cleared_in_chain a d h m.in_chain);
            names = inr (inr (inl (subst (IsSomeMember a) (sym e) (d, m)), r.1, r.2));
          }
          | inr y ↦ record { from = r.0; inside = r.1.0; slot = cleared_destination a y; names = inr (inr (inr (d, h, m, y), r.1, r.2)) }
        ]

    -- a reached header other than the root's is one that some header inside leads to
    pub reached_named : (g : ℕ) → IsReached a g → g ≢ root a → IsLedTo g
    reached_named g (inl e) n = absurd (n e)
    reached_named g (inr (inl l)) n = link_named l.0 g l.1
    reached_named g (inr (inr t)) n = target_named g t

module _ (a : List ℕ) (at : ℕ) where
  -- of a member, or a header that members' hard links lead over, the destination is named, if it
  -- has one
  pub destination_named : (word : Option ℕ) → IsSomeMember a at ⊎ IsTarget a at
      → IsTheOne (λ g. IsHardLink a at × (g ≡ destination a at)) word → IsTheOne (NamesDestination a at) word
  destination_named word u o = record { each = λ g. (λ e. (let x = (o.each g).0 e in (u, x.0, x.1)), λ x. (o.each g).1 (x.1, x.2)) }

  -- a header that is not a hard link, or neither a member nor on a member's chain, names no
  -- destination
  pub destination_unnamed : ¬ ((IsSomeMember a at ⊎ IsTarget a at) × IsHardLink a at) → IsTheOne (NamesDestination a at) None
  destination_unnamed n = nowhere (NamesDestination a at) (λ g x. n (x.0, x.1))

module _ (Q : ℕ → Type 0) (found : Option ℕ) where
  -- if there is no word, what was found stays
  pub unnamed : Notes (λ h. ◌≡◌ {A = Option ℕ} None (Some h)) Q found found
  unnamed = record { is = λ h e. inl e; old = λ h e. (h, e, omega arith); new = λ h e q. cc }

  -- a word that is not looked for leaves what was found
  pub unnoted : (word : ℕ) → ¬ Q word → Notes (λ h. Some word ≡ Some h) Q found found
  unnoted word n = record {
    is = λ h e. inl e;
    old = λ h e. (h, e, omega arith);
    new = λ h e q. absurd (n (let x : word ≡ h = cc in subst Q (sym x) q));
  }

past : (n e : ℕ) → e < n → leb n e ≡ false
past n e h = grind (arith, nat_tests)

lesser_word : (found : Option ℕ) (word : ℕ) → lesser found word ≤ word
lesser_word None word = omega arith
lesser_word (Some least) word = elim (cases_lt word least) [
  | inl l ↦ rw (past least word l) (omega arith)
  | inr l ↦ rw (le-leb least word l)
      l
]

lesser_found : (found : Option ℕ) (word h : ℕ) → found ≡ Some h → lesser found word ≤ h
lesser_found None word h e = cc
lesser_found (Some least) word h e =
    let same : least ≡ h = cc in
    elim (cases_lt word least) [ inl l ↦ rw (past least word l) (omega arith) | inr l ↦ rw (le-leb least word l) (omega arith) ]

lesser_is : (found : Option ℕ) (word h : ℕ) → lesser found word ≡ h → (found ≡ Some h) ⊎ (word ≡ h)
lesser_is None word h e = inr e
lesser_is (Some least) word h e = elim (cases_lt word least) [
  | inl l ↦ inr (rw (past least word l) at e)
  | inr l ↦ inl (ap Some (rw (le-leb least word l) at e))
]

-- a word that is looked for is noted, as the lesser of it and of what was found
pub noted : (Q : ℕ → Type 0) (found : Option ℕ) (word : ℕ) → Q word → Notes (λ h. Some word ≡ Some h) Q found (Some (lesser found word))
noted Q found word q = record {
  is = λ h e. elim (lesser_is found word h (cc)) [ inl x ↦ inl x | inr x ↦ inr (ap Some x, subst Q x q) ];
  old = λ h e. (lesser found word, refl, lesser_found found word h e);
  new = λ h e x. (lesser found word, refl, (let y : word ≡ h = cc in subst (λ z. lesser found word ≤ z) y (lesser_word found word)));
}

-- the one header of W is noted
of_one : (W Q : ℕ → Type 0) (before word after : Option ℕ) → IsTheOne W word → Notes (λ h. word ≡ Some h) Q before after
    → Notes W Q before after
of_one W Q before word after o n = record {
  is = λ h e. elim (n.is h e) [ inl x ↦ inl x | inr x ↦ inr ((o.each h).0 x.0, x.1) ];
  old = n.old;
  new = λ h w q. n.new h ((o.each h).1 w) q;
}

-- two notes in a row
then_of : (V W Q : ℕ → Type 0) (before middle after : Option ℕ) → Notes V Q before middle → Notes W Q middle after
    → Notes (λ h. V h ⊎ W h) Q before after
then_of V W Q before middle after m n = record {
  is = λ h e. elim (n.is h e) [
    | inl x ↦ elim (m.is h x) [ inl y ↦ inl y | inr y ↦ inr (inl y.0, y.1) ]
    | inr x ↦ inr (inr x.0, x.1)
  ];
  old = λ h e. (let x = m.old h e in onward h x.0 x.1 x.2);
  new = λ h u q. elim u [ inl v ↦ (let x = m.new h v q in onward h x.0 x.1 x.2) | inr w ↦ n.new h w q ];
}
  where
    onward : (h g : ℕ) → middle ≡ Some g → g ≤ h → (k : ℕ) × (after ≡ Some k) × (k ≤ h)
    onward h g e l = let x = n.old g e in (x.0, x.1, omega arith)

module _ (a : List ℕ) (at : ℕ) where
  -- if spec.info names a place inside the image, nothing is noted
  pub noted_inside : (found : Outside) → IsInside a (cleared (word a (at + 4))) → NotesOnBoth a (NamesBySpec a at) found found
  noted_inside found i = (
    stays (IsBeforeRoot a) found.below (λ h x q. let l = x.0 in omega arith),
    stays (IsPastEnd a) found.above (λ h x q. let l = x.1 in let m = q.1 in omega arith),
  )
    where
      named : (h : ℕ) → NamesBySpec a at h → IsInside a h
      named h (inl x) = subst (IsInside a) (sym x.1.0) i
      named h (inr x) = subst (IsInside a) (sym x.2) i

      stays : (Q : ℕ → Type 0) (word : Option ℕ) → ((h : ℕ) → IsInside a h → ¬ Q h) → Notes (NamesBySpec a at) Q word word
      stays Q word n = record { is = λ h e. inl e; old = λ h e. (h, e, omega arith); new = λ h w q. absurd (n h (named h w) q) }

  -- the one header of W is noted, and then those of V
  one_and : (W V : ℕ → Type 0) (word : Option ℕ) (before middle after : Outside) → IsTheOne W word
      → NotesOnBoth a (λ h. word ≡ Some h) before middle → NotesOnBoth a V middle after → NotesOnBoth a (λ h. W h ⊎ V h) before after
  one_and W V word before middle after o m n = (
    then_of W V (IsBeforeRoot a) _ _ _ (of_one W (IsBeforeRoot a) _ word _ o m.0) n.0,
    then_of W V (IsPastEnd a) _ _ _ (of_one W (IsPastEnd a) _ word _ o m.1) n.1,
  )

  -- noting the first header, and then the destination, notes what spec.info names
  pub noted_spec : {first hard : Option ℕ} (before with_first after : Outside) → IsTheOne (IsLink a (first_of at)) first
      → IsTheOne (NamesDestination a at) hard → NotesOnBoth a (λ h. first ≡ Some h) before with_first
      → NotesOnBoth a (λ h. hard ≡ Some h) with_first after → NotesOnBoth a (NamesBySpec a at) before after
  noted_spec {first} {hard} before with_first after y z m n = one_and (IsLink a (first_of at)) (NamesDestination a at) first _ _ _ y m
      (of_one _ (IsBeforeRoot a) _ hard _ z n.0, of_one _ (IsPastEnd a) _ hard _ z n.1)

  -- noting the header after one, and then what its spec.info names, notes all that it names
  pub noted_named : (next : Option ℕ) (before with_next after : Outside) → IsTheOne (IsLink a (next_of at)) next
      → NotesOnBoth a (λ h. next ≡ Some h) before with_next → NotesOnBoth a (NamesBySpec a at) with_next after
      → NotesOnBoth a (Names a at) before after
  noted_named next before with_next after x l m = one_and (IsLink a (next_of at)) (NamesBySpec a at) next _ _ _ x l m

-- what was found is the least of P, and with the notes also of W
least_more : (P W Q : ℕ → Type 0) (before after : Option ℕ) → IsLeast (λ g. P g × Q g) before → Notes W Q before after
    → IsLeast (λ g. (P g ⊎ W g) × Q g) after
least_more P W Q before after l n = record {
  is = λ h e. elim (n.is h e) [ inl x ↦ (let y = l.is h x in (inl y.0, y.1)) | inr x ↦ (inr x.0, x.1) ];
  whole = all;
}
  where
    all : (h : ℕ) → (P h ⊎ W h) × Q h → (g : ℕ) × (after ≡ Some g) × (g ≤ h)
    all h (inl p, q) = let x = l.whole h (p, q) in let y = n.old x.0 x.1 in (y.0, y.1, omega arith)
    all h (inr w, q) = n.new h w q

least_same : (P R : ℕ → Type 0) (found : Option ℕ) → ((g : ℕ) → P g → R g) → ((g : ℕ) → R g → P g) → IsLeast P found → IsLeast R found
least_same P R found to from l = record { is = λ h e. to h (l.is h e); whole = λ h r. l.whole h (from h r) }

-- g is what a header inside, in a slot before n, leads to
pub record IsLedToBefore (a : List ℕ) (n g : ℕ) : Type 0 where
  pub slot : ℕ
  pub early : slot < n
  pub inside : IsInside a (slot * 16)
  pub names : Names a (slot * 16) g

module _ (a : List ℕ) (Q : ℕ → Type 0) where
  -- what was found is the least of those looked for that headers in slots before n lead to
  abbrev pub IsFoundBefore : ℕ → Option ℕ → Type 0
  IsFoundBefore n found = IsLeast (λ g. IsLedToBefore a n g × Q g) found

  -- below the root's slot nothing is found, as no header is there
  pub nothing : (n : ℕ) → n ≡ root a / 16 → IsFoundBefore n None
  nothing n e = record {
    is = λ h x. cc;
    whole = λ h x. absurd (let c = cleared_root a in let l = x.0.early in let i = x.0.inside in
        omega arith);
  }

  to_next : (n : ℕ) → IsInside a (n * 16) → (g : ℕ) → (IsLedToBefore a n g ⊎ Names a (n * 16) g) × Q g → IsLedToBefore a (n + 1) g × Q g
  to_next n i g (inl x, q) = (record { slot = x.slot; early = omega arith; inside = x.inside; names = x.names }, q)
  to_next n i g (inr x, q) = (record { slot = n; early = omega arith; inside = i; names = x }, q)

  from_next : (n g : ℕ) → IsLedToBefore a (n + 1) g × Q g → (IsLedToBefore a n g ⊎ Names a (n * 16) g) × Q g
  from_next n g (x, q) = elim (cases_eq x.slot n) [
    | inl e ↦ (inr (subst (λ y. Names a (y * 16) g) e x.names), q)
    | inr e ↦ (inl (record { slot = x.slot; early = (let l = x.early in omega arith); inside = x.inside; names = x.names }), q)
  ]

  -- once what its header names is noted, a slot is scanned
  pub scans : (n : ℕ) (before after : Option ℕ) → IsInside a (n * 16) → IsFoundBefore n before
      → Notes (Names a (n * 16)) Q before after → IsFoundBefore (n + 1) after
  scans n before after i l x = least_same _ _ after (to_next n i) (from_next n)
      (least_more (IsLedToBefore a n) (Names a (n * 16)) Q before after l x)

  -- a header that is not reached leads nowhere
  names_from : (h g : ℕ) → Names a h g → (h ≡ root a) ⊎ IsInSomeChain a h ⊎ IsTarget a h
  names_from h g (inl x) = inr (inl (in_some_chain a x.0 h x.1.opened x.1.in_chain))
  names_from h g (inr (inl x)) = elim ((opened a h).0 x.0) [ inl e ↦ inl e | inr y ↦ inr (inl y.0) ]
  names_from h g (inr (inr (inl m, l, e))) = inr (inl (member_in_chain a h m))
  names_from h g (inr (inr (inr t, l, e))) = inr (inr t)

  scan_over : (n : ℕ) (found : Option ℕ) → ((g : ℕ) → IsInside a (n * 16) → ¬ Names a (n * 16) g) → IsFoundBefore n found
      → IsFoundBefore (n + 1) found
  scan_over n found none l = least_same _ _ found
      (λ g x. (let y = x.0 in let e = y.early in (record { slot = y.slot; early = omega arith; inside = y.inside; names = y.names }, x.1)))
      (λ g x. (let y = x.0 in (
        record {
          slot = y.slot;
          early =
              (elim (cases_eq y.slot n) [
                | inl q ↦ absurd (none g (subst (λ k. IsInside a (k * 16)) q y.inside)
                    (subst (λ k. Names a (k * 16) g) q y.names))
                | inr q ↦ (let e = y.early in omega arith)
              ]);
          inside = y.inside;
          names = y.names;
        },
        x.1,
      )))
      l

  -- a run of slots after the root's whose headers are not reached is scanned with nothing noted
  pub scanned_to : {low high : ℕ} (found : Option ℕ) → root a < low * 16 → IsGap a (IsInSomeChain a) low high
      → IsGap a (IsTarget a) low high → IsFoundBefore low found → IsFoundBefore high found
  scanned_to {low} {high} found r chains targets f = over_to (λ k. IsFoundBefore k found) low high chains.rising f
      (λ k n o x. scan_over k found (λ g i y. elim (names_from (k * 16) g y) [
        | inl e ↦ omega arith
        | inr (inl z) ↦ chains.none k n o i z
        | inr (inr z) ↦ targets.none k n o i z
      ]) x)

  -- after the last slot what was found is the least reached header of those looked for
  pub all_scanned : IsVolumeImage a → (n : ℕ) (found : Option ℕ) → length a / 16 ≤ n
      → ((g : ℕ) → Q g → g ≢ root a) → IsFoundBefore n found → IsLeast (λ g. IsReached a g × Q g) found
  all_scanned v n found l u f = least_same _ _ found (λ g x. (names_reached a (x.0.slot * 16) g x.0.names, x.1)) from f
    where
      from : (g : ℕ) → IsReached a g × Q g → IsLedToBefore a n g × Q g
      from g (r, q) =
          let x = reached_named a v g r (u g q) in
          let i = x.inside in (
            record {
              slot = x.from / 16;
              early = omega arith;
              inside = rw (x.slot) i;
              names = subst (λ y. Names a y g) (sym x.slot) x.names;
            },
            q,
          )

-- what happens to what was found, by an optional word
pub ruleset notes = (unnamed, noted, unnoted)
