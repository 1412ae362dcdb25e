-- If no header is linked twice, one number of names leads to each: it is in one chain (one_dir), so one number leads to its directory
-- (one_depth, one_standing). Then the number with which a walk reaches a header says whether it is too deep (is_deep, too_deep).
use Rattle.std.proofs.Common.{◌≡◌, ◌≢◌, sym, ap, subst, ℕ, zero, suc, ◌+◌, ◌<◌, ◌≤◌, ◌⊎◌, inl, inr, List, [], ◌∷◌, ◌++◌, length, Option, Some, None, refl, arith, lit≤, lit<, length-append}
use Rattle.std.proofs.lemmas.Bool.{cases_eq, cases_order}
use Rattle.romfs_format.specs.declared.rule.Rule.TheVariants.{Outside, NameOpen, LinkedTwice, TooDeep}
use Rattle.romfs_rules.specs.declared.depth.Waiting.{Waiting}
use Rattle.romfs_format.specs.declared.limits.TheConstants.{HEAD_SIZE, MAX_NAMES}
use Rattle.romfs_format.specs.Fields.{root, IsInside, name}
use Rattle.romfs_format.specs.Chains.{IsNext, IsAt, IsInChain, IsOpened, IsMember, Leads, Has}
use Rattle.romfs_format.specs.Links.{Field, first_of, next_of, IsLink, IsReached}
use Rattle.romfs_format.specs.Rules.{BreaksHeader}
use Rattle.romfs_format.specs.declared.rule.Profile.TheVariants.{Usual}
use Rattle.romfs_rules.specs.Judge.{KeepsAllHeaderRules}
use Rattle.romfs_rules.specs.Depth.{IsTooDeep}
use Rattle.romfs_rules.proofs.Standing.{link_to}

-- n names lead from the root to h
abbrev pub IsBelow : List ℕ → ℕ → ℕ → Type 0
IsBelow a zero h = h ≡ root a
IsBelow a (suc n) h = (d : ℕ) × IsBelow a n d × IsMember a d h

-- n names lead to a directory with h in its chain
pub record StandsBelow (a : List ℕ) (n h : ℕ) : Type 0 where
  pub dir : ℕ
  pub below : IsBelow a n dir
  pub opened : IsOpened a dir
  pub in_chain : IsInChain a dir h

module _ (a : List ℕ) (keeps : KeepsAllHeaderRules Usual a) where
  not_twice : (h : ℕ) (f g : Field) → f ≢ g → IsLink a f h → IsLink a g h → ⊥
  not_twice h f g n l m = keeps.keeps LinkedTwice h (lit≤ tt, lit< tt) (inl (f, g, n, l, m))

  one_first : (d e h : ℕ) → IsLink a (first_of d) h → IsLink a (first_of e) h → d ≡ e
  one_first d e h l m = elim (cases_eq d e) [ inl s ↦ s | inr n ↦ absurd (not_twice h (first_of d) (first_of e) (λ s. n cc) l m) ]

  one_next : (d e h : ℕ) → IsLink a (next_of d) h → IsLink a (next_of e) h → d ≡ e
  one_next d e h l m = elim (cases_eq d e) [ inl s ↦ s | inr n ↦ absurd (not_twice h (next_of d) (next_of e) (λ s. n cc) l m) ]

  not_both : (d g h : ℕ) → IsLink a (first_of d) h → IsLink a (next_of g) h → ⊥
  not_both d g h l m = not_twice h (first_of d) (next_of g) (λ s. cc) l m

  next_link : (d n g h : ℕ) → IsOpened a d → IsAt a d n g → IsNext a g h → IsLink a (next_of g) h
  next_link d n g h o x y = (d, record { opened = o; in_chain = (n, x) }, y)

  -- a header is in one chain
  one_dir : (d e i j h : ℕ) → IsOpened a d → IsOpened a e → IsAt a d i h → IsAt a e j h → d ≡ e
  one_dir d e zero zero h o p x y = one_first d e h (o, x) (p, y)
  one_dir d e zero (suc j) h o p x y = absurd (not_both d y.0 h (o, x) (next_link e j y.0 h p y.1 y.2))
  one_dir d e (suc i) zero h o p x y = absurd (not_both e x.0 h (p, y) (next_link d i x.0 h o x.1 x.2))
  one_dir d e (suc i) (suc j) h o p x y =
      let s = one_next y.0 x.0 h (next_link e j y.0 h p y.1 y.2) (next_link d i x.0 h o x.1 x.2) in
      one_dir d e i j x.0 o p x.1 (subst (λ g. IsAt a e j g) s y.1)

  -- a member is not the root's header
  pub no_root : (d h : ℕ) → IsMember a d h → h ≢ root a
  no_root d h m r = elim (cases_eq d (root a)) [
    | inl e ↦ m.kept (inl (e, r))
    | inr n ↦ keeps.keeps LinkedTwice h (lit≤ tt, lit< tt) (inr (r, (d, n, record { opened = m.opened; in_chain = m.in_chain })))
  ]

  one_depth : (n m d : ℕ) → IsBelow a n d → IsBelow a m d → n ≡ m
  one_depth zero zero d x y = refl
  one_depth zero (suc m) d x y = absurd (no_root y.0 d y.2 x)
  one_depth (suc n) zero d x y = absurd (no_root x.0 d x.2 y)
  one_depth (suc n) (suc m) d x y =
      let e = one_dir y.0 x.0 y.2.in_chain.0 x.2.in_chain.0 d y.2.opened x.2.opened y.2.in_chain.1 x.2.in_chain.1 in
      ap (λ k. suc k) (one_depth n m x.0 x.1 (subst (λ c. IsBelow a m c) e y.1))

  -- a header is below one number of names alone
  pub one_standing : (n m h : ℕ) → StandsBelow a n h → StandsBelow a m h → n ≡ m
  one_standing n m h x y =
      let e = one_dir y.dir x.dir y.in_chain.0 x.in_chain.0 h y.opened x.opened y.in_chain.1 x.in_chain.1 in
      one_depth n m x.dir x.below (subst (λ c. IsBelow a m c) e y.below)

  decide_inside : (h : ℕ) → IsInside a h ⊎ ¬ IsInside a h
  decide_inside h = elim (cases_order h (root a)) [
    | inr (inl l) ↦ inr (λ i. let j = i.0 in absurd (omega arith))
    | inl e ↦ within h (rw e (omega arith))
    | inr (inr l) ↦ within h (omega arith)
  ]
    where
      within : (h : ℕ) → root a ≤ h → IsInside a h ⊎ ¬ IsInside a h
      within h l = elim (cases_order (h + HEAD_SIZE) (length a)) [
        | inr (inr m) ↦ inr (λ i. let j = i.1 in absurd (omega arith))
        | inl e ↦ inl (l, (let q : h + HEAD_SIZE ≡ length a = e in omega arith))
        | inr (inl m) ↦ inl (l, omega arith)
      ]

  reached : (d h : ℕ) → IsMember a d h → IsReached a h
  reached d h m = inr (inl (link_to a d m.in_chain.0 h m.opened m.in_chain.1))

  -- a member lies in the image
  pub inside_member : (d h : ℕ) → IsMember a d h → IsInside a h
  inside_member d h m = elim (decide_inside h) [ inl i ↦ i | inr n ↦ absurd (keeps.keeps Outside h (lit≤ tt, lit< tt) (reached d h m, n)) ]

  named_member : (d h : ℕ) → IsMember a d h → (n : List ℕ) × (name a h ≡ Some n)
  named_member d h m = go (name a h) refl
    where
      go : (o : Option (List ℕ)) → name a h ≡ o → (n : List ℕ) × (name a h ≡ Some n)
      go (Some n) e = (n, e)
      go None e = absurd (keeps.keeps NameOpen h (lit≤ tt, lit< tt) (reached d h m, inside_member d h m, no_root d h m, rw e refl))

  leads_on : (path : List (List ℕ)) (d c h : ℕ) (n : List ℕ) → Leads a d path c → IsMember a c h → name a h ≡ Some n
      → Leads a d (path ++ n ∷ []) h
  leads_on [] d c h n e m s = (h, subst (λ x. IsMember a x h) (sym e) m, s, refl)
  leads_on (x ∷ path) d c h n l m s = (l.0, l.1, l.2, leads_on path l.0 c h n l.3 m s)

  below_has : (n h : ℕ) → IsBelow a n h → (path : List (List ℕ)) × Has a path h × (length path ≡ n)
  below_has zero h e = ([], sym e, refl)
  below_has (suc n) h x =
      let r = below_has n x.0 x.1 in
      let s = named_member x.0 h x.2 in (
        r.0 ++ s.0 ∷ [],
        leads_on r.0 (root a) x.0 h s.0 r.1 x.2 s.1,
        (let k : length r.0 ≡ n = r.2 in let q =
            length-append r.0 (s.0 ∷ []) in omega arith),
      )

  leads_below : (path : List (List ℕ)) (n d h : ℕ) → IsBelow a n d → Leads a d path h → IsBelow a (n + length path) h
  leads_below [] n d h b e = let q : n ≡ n + 0 = omega arith in subst (λ k. IsBelow a k h) q (subst (λ x. IsBelow a n x) e b)
  leads_below (x ∷ path) n d h b l =
      let q : suc n + length path ≡ n + suc (length path) = omega arith in
      subst (λ k. IsBelow a k h) q (leads_below path (suc n) l.0 h (d, b, l.1) l.3)

  -- a header that is too deep is a member of a directory to which at least as many names lead as a
  -- path may have
  pub deep_at : (h : ℕ) → BreaksHeader Usual a TooDeep h → (n : ℕ) × (MAX_NAMES ≤ n) × (d : ℕ) × IsBelow a n d × IsMember a d h
  deep_at h x = go (0 + length x.0) (leads_below x.0 0 (root a) h refl x.1) (let l = x.2 in omega arith)
    where
      go : (k : ℕ) → IsBelow a k h → MAX_NAMES < k → (n : ℕ) × (MAX_NAMES ≤ n) × (d : ℕ) × IsBelow a n d × IsMember a d h
      go zero b l = absurd (omega arith)
      go (suc n) b l = (n, omega arith, b.0, b.1, b.2)

  -- a member of a directory is below as many names as lead to that
  pub stands_member : (n d h : ℕ) → IsBelow a n d → IsMember a d h → StandsBelow a n h
  stands_member n d h b m = record { dir = d; below = b; opened = m.opened; in_chain = m.in_chain }

  -- a header that a walk finds too deep breaks the rule on depth
  pub is_deep : (w : Waiting) → StandsBelow a w.names w.header → IsTooDeep a w → BreaksHeader Usual a TooDeep w.header
  is_deep w s t =
      let m : IsMember a s.dir w.header = record {
        opened = s.opened;
        in_chain = s.in_chain;
        kept = elim [ inl x ↦ t.1 x.1 | inr x ↦ t.2 x ];
      } in
      let r = below_has (suc w.names) w.header (s.dir, s.below, m) in
      (r.0, r.1, (let k : length r.0 ≡ suc w.names = r.2 in let l = t.0 in omega arith))

  -- a header that breaks the rule on depth is one that a walk finds too deep
  pub too_deep : (w : Waiting) → StandsBelow a w.names w.header → BreaksHeader Usual a TooDeep w.header → IsTooDeep a w
  too_deep w s x =
      let y = deep_at w.header x in
      let e = one_standing y.0 w.names w.header (stands_member y.0 y.2 w.header y.3 y.4) s in
      (subst (λ n. MAX_NAMES ≤ n) e y.1, no_root y.2 w.header y.4, λ q. y.4.kept (inr q))
