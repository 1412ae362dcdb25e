-- An image whose directories were all walked keeps every rule. Each opened directory was walked (was_gone), so each header of its chain was
-- passed (seen), each target is the direct end of a link (target), one field names a header (one_field), and paths are short (short).
use Rattle.std.proofs.Common.{◌≡◌, ◌≢◌, ◌∙◌, sym, ap, subst, ℕ, zero, suc, ◌+◌, ◌<◌, ◌≤◌, ◌⊎◌, inl, inr, List, [], ◌∷◌, length, get_or, Bool, Some, IsNone, IsSomeAnd, refl, arith}
use Rattle.std.specs.List.{Contains}
use Rattle.std.proofs.lemmas.Bool.{false≢true, true≢false}
use Rattle.romfs_format.specs.declared.rule.Rule.{Rule}
use Rattle.romfs_format.specs.declared.rule.Rule.TheVariants.{TooDeep}
use Rattle.romfs_format.specs.declared.rule.Profile.TheVariants.{Usual}
use Rattle.romfs_format.specs.declared.limits.TheConstants.{MAX_NAMES}
use Rattle.romfs_format.specs.declared.head.End.TheVariants.{AtDirectory, Nowhere}
use Rattle.romfs_format.specs.Fields.{root, name, IsInside}
use Rattle.romfs_format.specs.Chains.{IsAt, IsInChain, IsOpened, at_root, below, IsMember, IsSomeMember, Leads}
use Rattle.romfs_format.specs.Links.{Field, first_of, next_of, IsLink, IsHardLink, destination, IsDestination, here, there, IsFinal, stays, follows, EndsAs, IsTarget, IsReached}
use Rattle.romfs_format.specs.Rules.{IsUsed, IsBadName, EndsOutside, IsLinkedTwice, IsRootElsewhere, IsNamesake, BreaksHeader}
use Rattle.romfs_rules.specs.declared.plain.Folder.{Folder}
use Rattle.romfs_rules.specs.Judge.{IsHeaderRule}
use Rattle.romfs_rules.specs.Marks.{IsVolumeImage, Opens}
use Rattle.romfs_rules.specs.Names.{kept_name}
use Rattle.romfs_rules.specs.Plain.{HasPlainBody, IsPlainEnd, IsPlainMember, folder, KeepsPlainly}
use Rattle.romfs_rules.proofs.Lists.{none_in}
use Rattle.romfs_rules.proofs.Slots.{inside_root}
use Rattle.romfs_rules.proofs.Standing.{opened}
use Rattle.romfs_rules.proofs.SameNaming.{one_at, keeps}
use Rattle.romfs_rules.proofs.Verdict.{by_rule}
use Rattle.romfs_rules.proofs.PlainWalk.{IsKnown, IsSeen, Descends, seen_at}

-- what is known, if nothing is to come, was walked
gone_along : (done : List Folder) (v : Folder) → IsKnown [] done v → Contains done v
gone_along done v (inl c) = absurd (none_in v c)
gone_along done v (inr c) = c

module _ (a : List ℕ) where
  hard_at : {h g : ℕ} → IsDestination a h g → IsHardLink a h
  hard_at (here l) = l
  hard_at (there l y) = l

  -- a hard link that leads directly to its end has that on its chain alone
  right_away : {h g : ℕ} → IsDestination a h g → (IsHardLink a h → IsPlainEnd a (destination a h)) → IsPlainEnd a g
  right_away (here l) p = p l
  right_away (there l y) p = absurd ((p l).no_link (hard_at y).1)

module _ (a : List ℕ) (v : IsVolumeImage a) (marks : List Bool) (d : Descends a [] marks) where
  root_gone : Contains d.done (folder (root a) 0)
  root_gone = gone_along d.done (folder (root a) 0) d.start

  in_gone : (c n h : ℕ) → Contains d.done (folder c n) → IsInChain a c h → IsSeen a marks [] d.done (folder c n) h
  in_gone c n h k x = seen_at a marks [] d.done (folder c n) h (d.gone (folder c n) k) x

  -- each opened directory was walked, with some number of names
  was_gone : (h : ℕ) → IsOpened a h → (n : ℕ) × Contains d.done (folder h n)
  was_gone h (at_root e) = (0, subst (λ y. Contains d.done (folder y 0)) (sym e) root_gone)
  was_gone h (below {d = c} o k p i t) =
      let r = was_gone c o in
      let s = in_gone c r.0 h r.1 k in (
        r.0 + 1,
        gone_along d.done (folder h (r.0 + 1))
            (s.comes (λ e. p (inl (s.plain.own e, e))) (record { inside = i; kind = t; kept = λ q. p (inr q) })),
      )

  -- each header in the chain of an opened directory was passed there
  seen : (c h : ℕ) → IsOpened a c → IsInChain a c h → (n : ℕ) × Contains d.done (folder c n) × IsSeen a marks [] d.done (folder c n) h
  seen c h o k = let r = was_gone c o in (r.0, r.1, in_gone c r.0 h r.1 k)

  not_root : (c h : ℕ) → IsMember a c h → h ≢ root a
  not_root c h m e = let s = seen c h m.opened m.in_chain in m.kept (inl (s.2.plain.own e, e))

  -- a member breaks no rule by its own bytes
  member : (c h : ℕ) → IsMember a c h → IsInside a h × ((text : List ℕ) × (name a h ≡ Some text) × IsPlainMember a h text)
  member c h m =
      let p = (seen c h m.opened m.in_chain).2.plain in
      (p.inside, (p.text, p.is_name, p.member (not_root c h m) (λ q. m.kept (inr q))))

  -- nor does what members' hard links lead over
  target : (g : ℕ) → IsTarget a g → IsPlainEnd a g
  target g (c, h, m, x) = right_away a x (λ l. (member c h m).1.2.ends l.1)

  -- a header that is used, with its name
  used : (h : ℕ) → IsUsed a h → (text : List ℕ) × (name a h ≡ Some text) × HasPlainBody a h text
  used h (i, inl m) = let p = member m.0 h m.1 in (p.1.0, p.1.1, p.1.2.body)
  used h (i, inr t) = let p = target h t in (p.text, p.is_name, p.body)

  -- a header that is reached is the root's, or lies in the image and has a name
  reached : (h : ℕ) → IsReached a h → (h ≡ root a) ⊎ (IsInside a h × ((text : List ℕ) × (name a h ≡ Some text)))
  reached h (inl e) = inl e
  reached h (inr (inl (first_of c, l))) = let p = (seen c h l.0 (zero, l.1)).2.plain in inr (p.inside, (p.text, p.is_name))
  reached h (inr (inl (next_of g, l))) =
      let p = (seen l.0 h l.1.opened (suc l.1.in_chain.0, (g, l.1.in_chain.1, l.2))).2.plain in
      inr (p.inside, (p.text, p.is_name))
  reached h (inr (inr t)) = let p = target h t in inr (p.inside, (p.text, p.is_name))

  -- the field that names the header at a position of a chain
  abbrev IsFieldAt : ℕ → ℕ → Field → Type 0
  IsFieldAt c zero f = f ≡ first_of c
  IsFieldAt c (suc i) f = (p : ℕ) × IsAt a c i p × (f ≡ next_of p)

  one_field_at : (c i : ℕ) (f g : Field) → IsFieldAt c i f → IsFieldAt c i g → f ≡ g
  one_field_at c zero f g x y = x ∙ sym y
  one_field_at c (suc i) f g x y = x.2 ∙ ap next_of (one_at a c i x.0 y.0 x.1 y.1) ∙ sym y.2

  -- the place in a chain to which a field that names a header leads
  record IsNamedAt (f : Field) (h : ℕ) : Type 0 where
    dir : ℕ
    names : ℕ
    gone : Contains d.done (folder dir names)
    place : ℕ
    at : IsAt a dir place h
    field_at : IsFieldAt dir place f

  named_at : (f : Field) (h : ℕ) → IsLink a f h → IsNamedAt f h
  named_at (first_of c) h (o, x) = let r = was_gone c o in
      record { dir = c; names = r.0; gone = r.1; place = zero; at = x; field_at = refl }
  named_at (next_of g) h (c, s, n) = let r = was_gone c s.opened in
      record {
        dir = c;
        names = r.0;
        gone = r.1;
        place = suc s.in_chain.0;
        at = (g, s.in_chain.1, n);
        field_at = (g, s.in_chain.1, refl);
      }

  one_place : (c n i j h : ℕ) → Contains d.done (folder c n) → IsAt a c i h → IsAt a c j h → i ≡ j
  one_place c n i j h k x y =
      let g = d.gone (folder c n) k in
      let p = g.at i h x in
      let q = g.at j h y in
      g.apart i j p.0 q.0 (p.1 ∙ sym q.1)

  -- one field names a header
  one_field : (f g : Field) (h : ℕ) → IsLink a f h → IsLink a g h → f ≡ g
  one_field f g h l m =
      let x = named_at f h l in
      let y = named_at g h m in
      let e : y.dir ≡ x.dir = ap (λ w. w.header) (d.one (folder y.dir y.names) (folder x.dir x.names) h y.gone x.gone
      (y.place, y.at) (x.place, x.at)) in
      let at : IsAt a x.dir y.place h = subst (λ c. IsAt a c y.place h) e y.at in
      let field_at : IsFieldAt x.dir y.place g = subst (λ c. IsFieldAt c y.place g) e y.field_at in
      let i : y.place ≡ x.place = one_place x.dir x.names y.place x.place h x.gone at x.at in
      one_field_at x.dir x.place f g x.field_at (subst (λ k. IsFieldAt x.dir k g) i field_at)

  linked_once : (h : ℕ) → ¬ (IsLinkedTwice a h ⊎ IsRootElsewhere a h)
  linked_once h (inl (f, g, n, l, m)) = n (one_field f g h l m)
  linked_once h (inr (e, (c, n, s))) = n ((seen c h s.opened s.in_chain).2.plain.own e)

  kept_of : (c h : ℕ) (q : List ℕ) → IsMember a c h → name a h ≡ Some q → kept_name a h ≡ Some q
  kept_of c h q m e = keeps a h q (not_root c h m) (member c h m).0 (λ x. m.kept (inr x)) e

  -- no two members of a directory have the same name
  no_namesake : (g h : ℕ) → ¬ IsNamesake a g h
  no_namesake g h (l, (c, m, k), ng, nh, e) =
      let r = was_gone c m.opened in
      let w = d.gone (folder c r.0) r.1 in
      let x = w.at m.in_chain.0 g m.in_chain.1 in
      let y = w.at k.in_chain.0 h k.in_chain.1 in
      let t = (member c h k).1 in
      let i = w.names.each m.in_chain.0 k.in_chain.0 t.0 x.0 y.0
      (subst (λ z. kept_name a z ≡ Some t.0) (sym x.1) (kept_of c g t.0 m (e ∙ t.1)))
      (subst (λ z. kept_name a z ≡ Some t.0) (sym y.1) (kept_of c h t.0 k t.1)) in
      let s : g ≡ h = sym x.1 ∙ ap (λ z. get_or w.heads z 0) i ∙ y.1 in
      omega arith

  no_loop : (h : ℕ) → ¬ (IsSomeMember a h × IsHardLink a h × EndsAs a h Nowhere)
  no_loop h (m, l, n) = let e = (member m.0 h m.1).1.2.ends l.1 in n (destination a h) (follows l (stays (λ x. e.no_link x.1)))

  final_of : {h e : ℕ} → IsFinal a h e → IsHardLink a h → IsPlainEnd a (destination a h) → e ≡ destination a h
  final_of (stays n) l p = absurd (n l)
  final_of (follows k (stays n)) l p = refl
  final_of (follows k (follows m x)) l p = absurd (p.no_link m.1)

  no_directory : (h : ℕ) → ¬ (IsSomeMember a h × IsHardLink a h × EndsAs a h AtDirectory)
  no_directory h (m, l, (e, x, t)) =
      let p = (member m.0 h m.1).1.2.ends l.1 in
      p.no_directory (rw (final_of x l p) at t.1)

  -- no rule of file headers is broken
  kept : (r : Rule) (h : ℕ) → IsHeaderRule r → ¬ BreaksHeader Usual a r h
  kept r h = by_rule (λ s. ¬ BreaksHeader Usual a s h) (record {
    outside = λ x. elim (reached h x.0) [ inl e ↦ x.1 (subst (IsInside a) (sym e) (inside_root a v)) | inr y ↦ x.1 y.0 ];
    name_open = λ x. elim (reached h x.0) [
      | inl e ↦ x.2 e
      | inr y ↦ true≢false (let n : IsNone (Some y.1.0) = subst (λ o. IsNone o) y.1.1 x.3 in n)
    ];
    name_bad = λ x. (let p = (member x.0.0 h x.0.1).1 in p.2.good (subst (λ o. IsSomeAnd o IsBadName) p.1 x.2));
    data_outside = λ x. (let p = used h x.0 in p.2.within (x.1, subst (λ o. IsSomeAnd o (EndsOutside a h)) p.1 x.2));
    target_long = λ x. (used h x.0).2.target x.1;
    linked_twice = linked_once h;
    same_name = λ x. no_namesake x.0 h x.1;
    link_loop = no_loop h;
    link_directory = no_directory h;
    major_large = λ x. (used h x.0).2.major x.1;
    header_sum = λ x. false≢true x.0;
  }) r

  -- a path from a walked directory is short
  short : (x : List ℕ) (path : List (List ℕ)) (c n h : ℕ) → Contains d.done (folder c n) → Leads a c (x ∷ path) h
      → n + suc (length path) ≤ MAX_NAMES
  short x [] c n h k l = let p = (in_gone c n l.0 k l.1.in_chain).plain.depth in omega arith
  short x (y ∷ path) c n h k l =
      let s = in_gone c n l.0 k l.1.in_chain in
      let z = not_root c l.0 l.1 in
      let o : Opens a l.0 = elim ((opened a l.0).0 l.3.1.opened) [ inl e ↦ absurd (z e) | inr q ↦ q.2 ] in
      let b = short y path l.0 (n + 1) h (gone_along d.done (folder l.0 (n + 1)) (s.comes z o)) l.3 in
      omega arith

  no_deep : (h : ℕ) → ¬ BreaksHeader Usual a TooDeep h
  no_deep h (path, l, m) = go path l m
    where
      go : (path : List (List ℕ)) → Leads a (root a) path h → MAX_NAMES < length path → ⊥
      go [] l m = omega arith
      go (x ∷ path) l m = let b = short x path (root a) 0 h root_gone l in omega arith

  -- if no directory is to come, no rule is broken
  pub all_kept : KeepsPlainly a
  all_kept = record { headers = record { keeps = λ r h x. kept r h x }; depth = no_deep }
