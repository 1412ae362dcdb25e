-- Two lists that look the same at the headers of a closed set lead to the same headers, and break the
-- same rules of file headers (breaks_alike). Each relation carries over from one list to the other, and
-- its denial too, since looking the same goes both ways. Paths therefore lead to the same headers
-- (same_path), hard links to the same ends (same_end), and targets are the same (same_target).
use Rattle.std.proofs.Common.{◌≡◌, ◌≢◌, ◌∙◌, sym, ap, subst, ℕ, zero, suc, ◌+◌, ◌<◌, ◌≤◌, ◌%◌, ◌/◌, ◌^◌, ◌⊎◌, inl, inr, List, [], ◌∷◌, Bool, IsTrue, length, take, drop, Option, Some, None, refl, arith}
use Rattle.std.specs.Prelude.{IsSome, IsSomeAnd, IsNone, MatchOption}
use Rattle.romfs_format.specs.declared.limits.TheConstants.{HEAD_SIZE, MAX_TARGET_SIZE, MAX_MAJOR}
use Rattle.romfs_format.specs.declared.head.Kind.TheVariants.{HardLink, Directory, SymLink}
use Rattle.romfs_format.specs.declared.head.End.{End}
use Rattle.romfs_format.specs.declared.head.End.TheVariants.{AtDirectory, AtOther, Nowhere}
use Rattle.romfs_format.specs.declared.rule.Rule.{Rule}
use Rattle.romfs_format.specs.declared.rule.Profile.{Profile}
use Rattle.romfs_format.specs.declared.rule.Rule.TheVariants.{Outside, NameOpen, NameBad, DataOutside, TargetLong, LinkedTwice, SameName, LinkLoop, LinkDirectory, MajorLarge, HeaderSum, TooDeep}
use Rattle.romfs_format.specs.Fields.{word, root, IsInside, kind_of, kind, next, spec, size, name, cleared, data_at, word_sum, header_bytes}
use Rattle.romfs_format.specs.Chains.{IsFirst, IsNext, IsAt, IsInChain, IsDotted, IsPassedOver, IsOpened, at_root, below, Stands, IsMember, IsSomeMember, Leads, Has}
use Rattle.romfs_format.specs.Heads.{head_of}
use Rattle.romfs_format.specs.Links.{Field, first_of, next_of, IsLink, IsHardLink, IsDirectory, destination, IsDestination, here, there, IsFinal, stays, follows, EndsAs, IsTarget, IsReached}
use Rattle.romfs_format.specs.Rules.{IsNamed, IsUsed, HasData, IsDevice, IsBadName, EndsOutside, HasNoRoot, HasBadSum, BreaksHeader}
use Rattle.romfs_kept.specs.Footprint.{Agrees, IsClosed}
use Rattle.romfs_kept.proofs.Alike.{Alike, alike, alike_sym, bytes_of_link}

-- the headers of the set lead to headers of the set
pub record Keeps (headers : ℕ → Bool) (a : List ℕ) : Type 0 where
  pub at_root : IsTrue (headers (root a))
  pub to_next : (h : ℕ) → IsTrue (headers h) → IsInside a h → next a h ≢ 0 → IsTrue (headers (next a h))
  pub to_first : (h : ℕ) → IsTrue (headers h) → (h ≡ root a) ⊎ (IsInside a h × (kind a h ≡ Directory))
      → cleared (spec a h) ≢ 0 → IsTrue (headers (cleared (spec a h)))
  pub to_link : (h : ℕ) → IsTrue (headers h) → IsInside a h → kind a h ≡ HardLink → IsTrue (headers (cleared (spec a h)))

closed_keeps : (kept headers : ℕ → Bool) (a : List ℕ) → IsClosed kept headers a → Keeps headers a
closed_keeps kept headers a c = record { at_root = c.at_root; to_next = c.to_next; to_first = c.to_first; to_link = c.to_link }

-- what is said of one header
module _ (headers : ℕ → Bool) (a xs : List ℕ) (s : Alike headers a xs) where
  word0 : (h : ℕ) → IsTrue (headers h) → word a h ≡ word xs h
  word0 h i = (let e : h ≡ h + 0 = omega arith in ap (word a) e ∙ s.words h 0 i (omega arith) ∙ ap (word xs) (sym e))

  kind_alike : (h : ℕ) → IsTrue (headers h) → kind a h ≡ kind xs h
  kind_alike h i = ap (λ w. kind_of (w % 8)) (word0 h i)

  next_alike : (h : ℕ) → IsTrue (headers h) → next a h ≡ next xs h
  next_alike h i = ap cleared (word0 h i)

  spec_alike : (h : ℕ) → IsTrue (headers h) → spec a h ≡ spec xs h
  spec_alike h i = s.words h 4 i (omega arith)

  size_alike : (h : ℕ) → IsTrue (headers h) → size a h ≡ size xs h
  size_alike h i = s.words h 8 i (omega arith)

  inside_alike : (h : ℕ) → IsInside a h → IsInside xs h
  inside_alike h i = (
    (let r = s.roots in let p = i.0 in let q : root xs ≤ h = omega arith in q),
    (let l = s.long in let p = i.1 in let q : h + HEAD_SIZE ≤ length xs = omega arith in q),
  )

  first_alike : (d h : ℕ) → IsTrue (headers d) → IsFirst a d h → IsFirst xs d h
  first_alike d h i f = (f.0 ∙ ap cleared (spec_alike d i), f.1, λ e. f.2 e ∙ s.roots)

  next_goes : (h g : ℕ) → IsTrue (headers h) → IsNext a h g → IsNext xs h g
  next_goes h g i n = (inside_alike h n.0, n.1 ∙ next_alike h i, n.2)

  hard_alike : (h : ℕ) → IsTrue (headers h) → IsHardLink a h → IsHardLink xs h
  hard_alike h i l = (inside_alike h l.0, sym (kind_alike h i) ∙ l.1)

  directory_alike : (h : ℕ) → IsTrue (headers h) → IsDirectory a h → IsDirectory xs h
  directory_alike h i l = (inside_alike h l.0, sym (kind_alike h i) ∙ l.1)

  dotted_alike : (h : ℕ) → IsTrue (headers h) → IsDotted a h → IsDotted xs h
  dotted_alike h i t = (
    inside_alike h t.0,
    elim (t.1) [
      | inl e ↦ inl (sym (s.names h i) ∙ e)
      | inr e ↦ inr (sym (s.names h i) ∙ e)
    ],
  )

  passed_alike : (d h : ℕ) → IsTrue (headers h) → IsPassedOver a d h → IsPassedOver xs d h
  passed_alike d h i (inl e) = inl (e.0 ∙ s.roots, e.1 ∙ s.roots)
  passed_alike d h i (inr t) = inr (dotted_alike h i t)

  keeps_alike : Keeps headers a → Keeps headers xs
  keeps_alike c = record {
    at_root = subst (λ r. IsTrue (headers r)) s.roots c.at_root;
    to_next = λ h i n z. subst (λ g. IsTrue (headers g)) (next_alike h i)
        (c.to_next h i (back h n) (λ e. z (sym (next_alike h i) ∙ e)));
    to_first = λ h i w z. subst (λ g. IsTrue (headers g)) (ap cleared (spec_alike h i))
        (c.to_first h i (elim w [
          | inl e ↦ inl (e ∙ sym s.roots)
          | inr k ↦ inr (back h k.0, kind_alike h i ∙ k.1)
        ]) (λ e. z (sym (ap cleared (spec_alike h i)) ∙ e)));
    to_link = λ h i n k. subst (λ g. IsTrue (headers g)) (ap cleared (spec_alike h i))
        (c.to_link h i (back h n) (kind_alike h i ∙ k));
  }
    where
      back : (h : ℕ) → IsInside xs h → IsInside a h
      back h i = (
        (let r = s.roots in let p = i.0 in let q : root a ≤ h = omega arith in q),
        (let l = s.long in let p = i.1 in let q : h + HEAD_SIZE ≤ length a = omega arith in q),
      )

-- what is said of chains; each header on them is of the set
module _ (headers : ℕ → Bool) (a xs : List ℕ) (s : Alike headers a xs) (c : Keeps headers a) where
  at_alike : (n d h : ℕ) → IsTrue (headers d) → (d ≡ root a) ⊎ (IsInside a d × (kind a d ≡ Directory)) → IsAt a d n h
      → IsAt xs d n h × IsTrue (headers h)
  at_alike zero d h i w f = (
    first_alike headers a xs s d h i f,
    subst (λ g. IsTrue (headers g)) (sym f.0) (c.to_first d i w (λ z. f.1 (f.0 ∙ z))),
  )
  at_alike (suc n) d h i w x =
      let r = at_alike n d x.0 i w x.1 in (
        (x.0, r.0, next_goes headers a xs s x.0 h r.1 x.2),
        subst (λ g. IsTrue (headers g)) (sym x.2.1) (c.to_next x.0 r.1 x.2.0 (λ z. x.2.2 (x.2.1 ∙ z))),
      )

  opened_as : {d : ℕ} → IsOpened a d → (d ≡ root a) ⊎ (IsInside a d × (kind a d ≡ Directory))
  opened_as (at_root e) = inl e
  opened_as (below o x p i k) = inr (i, k)

  opened_alike : {d : ℕ} → IsOpened a d → IsOpened xs d × IsTrue (headers d)
  opened_alike (at_root e) = (at_root (e ∙ s.roots), subst (λ g. IsTrue (headers g)) (sym e) c.at_root)
  opened_alike (below {d = d} {h = h} o x p i k) =
      let q = opened_alike o in
      let r = at_alike x.0 d h q.1 (opened_as o) x.1 in (
        below q.0 (x.0, r.0) (λ t. p (passed_alike headers xs a (alike_sym headers a xs s) d h r.1 t))
            (inside_alike headers a xs s h i) (sym (kind_alike headers a xs s h r.1) ∙ k),
        r.1,
      )

  chain_alike : (d h : ℕ) → IsOpened a d → IsInChain a d h → IsInChain xs d h × IsTrue (headers h)
  chain_alike d h o x =
      let r = at_alike x.0 d h ((opened_alike o).1) (opened_as o) x.1 in ((x.0, r.0), r.1)

  stands_alike : (d h : ℕ) → Stands a d h → Stands xs d h × IsTrue (headers h)
  stands_alike d h x =
      let r = chain_alike d h x.opened x.in_chain in
      (record { opened = (opened_alike x.opened).0; in_chain = r.0 }, r.1)

  member_alike : (d h : ℕ) → IsMember a d h → IsMember xs d h × IsTrue (headers h)
  member_alike d h x =
      let r = chain_alike d h x.opened x.in_chain in (
        record {
          opened = (opened_alike x.opened).0;
          in_chain = r.0;
          kept = λ t. x.kept (passed_alike headers xs a (alike_sym headers a xs s) d h r.1 t);
        },
        r.1,
      )

  some_alike : (h : ℕ) → IsSomeMember a h → IsSomeMember xs h × IsTrue (headers h)
  some_alike h (d, m) = (let r = member_alike d h m in ((d, r.0), r.1))

  link_alike : (f : Field) (h : ℕ) → IsLink a f h → IsLink xs f h × IsTrue (headers h)
  link_alike (first_of d) h (o, f) =
      let q = opened_alike o in (
        (q.0, first_alike headers a xs s d h q.1 f),
        (at_alike 0 d h q.1 (opened_as o) f).1,
      )
  link_alike (next_of g) h (d, x, n) =
      let q = stands_alike d g x in (
        (d, q.0, next_goes headers a xs s g h q.1 n),
        subst (λ g. IsTrue (headers g)) (sym n.1) (c.to_next g q.1 n.0 (λ z. n.2 (n.1 ∙ z))),
      )

  leads_to : (h : ℕ) → IsTrue (headers h) → destination a h ≡ destination xs h
  leads_to h i = ap cleared (spec_alike headers a xs s h i)

  destination_alike : {h g : ℕ} → IsDestination a h g → IsTrue (headers h) → IsDestination xs h g × IsTrue (headers g)
  destination_alike (here {h = h} l) i = (
    subst (λ g. IsDestination xs h g) (sym (leads_to h i)) (here (hard_alike headers a xs s h i l)),
    c.to_link h i l.0 l.1,
  )
  destination_alike (there {h = h} {g = g} l t) i =
      let r = destination_alike t (c.to_link h i l.0 l.1) in (
        there (hard_alike headers a xs s h i l) (subst (λ x. IsDestination xs x g) (leads_to h i) r.0),
        r.1,
      )

  final_alike : {h e : ℕ} → IsFinal a h e → IsTrue (headers h) → IsFinal xs h e × IsTrue (headers e)
  final_alike (stays {h = h} n) i = (stays (λ l. n (hard_alike headers xs a (alike_sym headers a xs s) h i l)), i)
  final_alike (follows {h = h} {e = e} l f) i =
      let r = final_alike f (c.to_link h i l.0 l.1) in (
        follows (hard_alike headers a xs s h i l) (subst (λ x. IsFinal xs x e) (leads_to h i) r.0),
        r.1,
      )

  target_alike : (g : ℕ) → IsTarget a g → IsTarget xs g × IsTrue (headers g)
  target_alike g (d, h, m, t) =
      let r = member_alike d h m in
      let q = destination_alike t r.1 in
      ((d, h, r.0, q.0), q.1)

  reached_alike : (h : ℕ) → IsReached a h → IsReached xs h × IsTrue (headers h)
  reached_alike h (inl e) = (inl (e ∙ s.roots), subst (λ g. IsTrue (headers g)) (sym e) c.at_root)
  reached_alike h (inr (inl l)) = (let r = link_alike l.0 h l.1 in (inr (inl (l.0, r.0)), r.1))
  reached_alike h (inr (inr t)) = (let r = target_alike h t in (inr (inr r.0), r.1))

  used_alike : (h : ℕ) → IsUsed a h → IsUsed xs h × IsTrue (headers h)
  used_alike h (i, inl m) = (let r = some_alike h m in ((inside_alike headers a xs s h i, inl r.0), r.1))
  used_alike h (i, inr t) = (let r = target_alike h t in ((inside_alike headers a xs s h i, inr r.0), r.1))

  path_alike : (path : List (List ℕ)) (d h : ℕ) → IsTrue (headers d) → Leads a d path h → Leads xs d path h × IsTrue (headers h)
  path_alike [] d h i e = (e, subst (λ g. IsTrue (headers g)) e i)
  path_alike (n ∷ path) d h i (g, m, e, rest) =
      let r = member_alike d g m in
      let t = path_alike path g h r.1 rest in ((g, r.0, sym (s.names g r.1) ∙ e, t.0), t.1)

  has_alike : (path : List (List ℕ)) (h : ℕ) → Has a path h → Has xs path h × IsTrue (headers h)
  has_alike path h p =
      let t = path_alike path (root a) h c.at_root p in (subst (λ d. Leads xs d path h) s.roots t.0, t.1)

  head_alike : (h : ℕ) → IsTrue (headers h) → head_of a h ≡ head_of xs h
  head_alike h i =
      let e = word0 headers a xs s h i in
      let f = spec_alike headers a xs s h i in
      let g = size_alike headers a xs s h i in
      let k = s.names h i in
      rw (e, f, g, k) refl

-- the rules
module _ (headers : ℕ → Bool) (a xs : List ℕ) (s : Alike headers a xs) (c : Keeps headers a) where
  back : Alike headers xs a
  back = alike_sym headers a xs s

  ends_alike : (h : ℕ) (end : End) → IsTrue (headers h) → EndsAs a h end → EndsAs xs h end
  ends_alike h AtDirectory i (e, f, d) =
      (let r = final_alike headers a xs s c f i in (e, r.0, directory_alike headers a xs s e r.1 d))
  ends_alike h AtOther i (e, f, n) =
      (let r = final_alike headers a xs s c f i in (e, r.0, λ d. n (directory_alike headers xs a back e r.1 d)))
  ends_alike h Nowhere i n = λ e f. n e ((final_alike headers xs a back (keeps_alike headers a xs s c) f i).0)

  some_and : {P Q : List ℕ → Type 0} (o : Option (List ℕ)) → ((n : List ℕ) → P n → Q n) → IsSomeAnd o P → IsSomeAnd o Q
  some_and None f h = h
  some_and (Some n) f h = f n h

  data_alike : (h : ℕ) → IsTrue (headers h) → HasData a h → HasData xs h
  data_alike h i (inl e) = inl (sym (kind_alike headers a xs s h i) ∙ e)
  data_alike h i (inr e) = inr (sym (kind_alike headers a xs s h i) ∙ e)

  device_alike : (h : ℕ) → IsTrue (headers h) → IsDevice a h → IsDevice xs h
  device_alike h i (inl e) = inl (sym (kind_alike headers a xs s h i) ∙ e)
  device_alike h i (inr e) = inr (sym (kind_alike headers a xs s h i) ∙ e)

  outside_alike : (h : ℕ) (n : List ℕ) → IsTrue (headers h) → EndsOutside a h n → EndsOutside xs h n
  outside_alike h n i l = (let e = size_alike headers a xs s h i in let f = s.long in
      let m : length xs < data_at h n + size xs h = omega arith in m)

  named_alike : (h : ℕ) → IsTrue (headers h) → IsNamed a h → IsNamed xs h
  named_alike h i n = (inside_alike headers a xs s h n.0, subst (λ o. IsSome o) (s.names h i) n.1)

  sum_alike : (h : ℕ) → IsTrue (headers h) → HasBadSum a h → HasBadSum xs h
  sum_alike h i b = told (name a h) refl b
    where
      told : (o : Option (List ℕ)) → name a h ≡ o → MatchOption o (h ≡ root a) (λ n. word_sum (header_bytes a h n) % 2 ^ 32 ≢ 0)
          → HasBadSum xs h
      told None e c = subst (λ o. MatchOption o (h ≡ root xs) (λ n. word_sum (header_bytes xs h n) % 2 ^ 32 ≢ 0))
          (sym e ∙ s.names h i) (c ∙ s.roots)
      told (Some n) e c = subst (λ o. MatchOption o (h ≡ root xs) (λ n. word_sum (header_bytes xs h n) % 2 ^ 32 ≢ 0))
          (sym e ∙ s.names h i) (subst (λ l. word_sum l % 2 ^ 32 ≢ 0) (s.sums h n i e) c)

  pub breaks_alike : (profile : Profile) (r : Rule) (h : ℕ) → BreaksHeader profile a r h → BreaksHeader profile xs r h
  breaks_alike profile Outside h (t, n) =
      ((reached_alike headers a xs s c h t).0, λ i. n (inside_alike headers xs a back h i))
  breaks_alike profile NameOpen h (t, i, n, o) =
      let r = reached_alike headers a xs s c h t in
      (r.0, inside_alike headers a xs s h i, (λ e. n (e ∙ sym s.roots)), subst (λ x. IsNone x) (s.names h r.1) o)
  breaks_alike profile NameBad h (m, i, b) =
      let r = some_alike headers a xs s c h m in
      (r.0, inside_alike headers a xs s h i, subst (λ n. IsSomeAnd n IsBadName) (s.names h r.1) b)
  breaks_alike profile DataOutside h (u, k, b) =
      let r = used_alike headers a xs s c h u in (
        r.0,
        data_alike h r.1 k,
        some_and (name xs h) (λ n l. outside_alike h n r.1 l)
            (subst (λ n. IsSomeAnd n (EndsOutside a h)) (s.names h r.1) b),
      )
  breaks_alike profile TargetLong h (u, k) =
      let r = used_alike headers a xs s c h u in
      let e = size_alike headers a xs s h r.1 in
      let l = k.1 in (
        r.0,
        (
          sym (kind_alike headers a xs s h r.1) ∙ k.0,
          (let m : MAX_TARGET_SIZE < size xs h = omega arith in m),
        ),
      )
  breaks_alike profile LinkedTwice h (inl (f, g, n, p, q)) =
      inl (f, g, n, (link_alike headers a xs s c f h p).0, (link_alike headers a xs s c g h q).0)
  breaks_alike profile LinkedTwice h (inr (e, x)) =
      inr (e ∙ s.roots, (x.0, (λ z. x.1 (z ∙ sym s.roots)), (stands_alike headers a xs s c x.0 h x.2).0))
  breaks_alike profile SameName h (g, x) =
      let d = x.1.0 in
      let p = member_alike headers a xs s c d g x.1.1 in
      let q = member_alike headers a xs s c d h x.1.2 in (
        g,
        (
          x.0,
          (d, p.0, q.0),
          named_alike g p.1 x.2,
          named_alike h q.1 x.3,
          sym (s.names g p.1) ∙ x.4 ∙ s.names h q.1,
        ),
      )
  breaks_alike profile LinkLoop h (m, l, e) =
      let r = some_alike headers a xs s c h m in
      (r.0, hard_alike headers a xs s h r.1 l, ends_alike h Nowhere r.1 e)
  breaks_alike profile LinkDirectory h (m, l, e) =
      let r = some_alike headers a xs s c h m in
      (r.0, hard_alike headers a xs s h r.1 l, ends_alike h AtDirectory r.1 e)
  breaks_alike profile MajorLarge h (u, k) =
      let r = used_alike headers a xs s c h u in (
        r.0,
        (
          device_alike h r.1 k.0,
          subst (λ n. MAX_MAJOR < n / 2 ^ 16) (spec_alike headers a xs s h r.1) k.1,
        ),
      )
  breaks_alike profile TooDeep h (path, p, l) =
      (path, (has_alike headers a xs s c path h p).0, l)
  breaks_alike profile HeaderSum h (q, t, i, b) =
      let r = reached_alike headers a xs s c h t in
      (q, r.0, inside_alike headers a xs s h i, sum_alike h r.1 b)
  breaks_alike profile r h x = absurd x

pub header_rules : (profile : Profile) (kept headers : ℕ → Bool) (a xs : List ℕ) → Agrees kept a xs → IsClosed kept headers a
    → (r : Rule) (h : ℕ)
    → (BreaksHeader profile a r h → BreaksHeader profile xs r h) × (BreaksHeader profile xs r h → BreaksHeader profile a r h)
header_rules profile kept headers a xs g c r h =
    let s = alike kept headers a xs g c in
    let k = closed_keeps kept headers a c in (
      breaks_alike headers a xs s k profile r h,
      breaks_alike headers xs a (alike_sym headers a xs s) (keeps_alike headers a xs s k) profile r h,
    )

-- a path leads to the same header, which has the same fields
pub same_path : (kept headers : ℕ → Bool) (a xs : List ℕ) → Agrees kept a xs → IsClosed kept headers a
    → (path : List (List ℕ)) (h : ℕ) → (Has a path h → Has xs path h × (head_of a h ≡ head_of xs h)) × (Has xs path h → Has a path h)
same_path kept headers a xs g c path h =
    let s = alike kept headers a xs g c in
    let k = closed_keeps kept headers a c in (
      (λ p. (let t = has_alike headers a xs s k path h p in (t.0, head_alike headers a xs s k h t.1))),
      (λ p. (has_alike headers xs a (alike_sym headers a xs s) (keeps_alike headers a xs s k) path h p).0),
    )

-- and hard links there to the same end, which has the same fields and name
pub same_end : (kept headers : ℕ → Bool) (a xs : List ℕ) → Agrees kept a xs → IsClosed kept headers a
    → (path : List (List ℕ)) (h end : ℕ) → Has a path h
    → (IsFinal a h end → IsFinal xs h end × (head_of a end ≡ head_of xs end) × (name a end ≡ name xs end))
    × (IsFinal xs h end → IsFinal a h end)
same_end kept headers a xs g c path h end p =
    let s = alike kept headers a xs g c in
    let k = closed_keeps kept headers a c in
    let i = (has_alike headers a xs s k path h p).1 in (
      (λ f. (let t = final_alike headers a xs s k f i in (t.0, head_alike headers a xs s k end t.1, s.names end t.1))),
      (λ f. (final_alike headers xs a (alike_sym headers a xs s) (keeps_alike headers a xs s k) f i).0),
    )

-- and has the same target
pub same_target : (kept headers : ℕ → Bool) (a xs : List ℕ) → Agrees kept a xs → IsClosed kept headers a
    → (path : List (List ℕ)) (h end : ℕ) (n : List ℕ) → Has a path h → IsFinal a h end → kind a end ≡ SymLink
    → size a end ≤ MAX_TARGET_SIZE → name a end ≡ Some n
    → take (size a end) (drop (data_at end n) a) ≡ take (size a end) (drop (data_at end n) xs)
same_target kept headers a xs g c path h end n p f k l e =
    let s = alike kept headers a xs g c in
    let keeps = closed_keeps kept headers a c in
    let t = final_alike headers a xs s keeps f (has_alike headers a xs s keeps path h p).1 in
    bytes_of_link kept a xs g end n (c.target end t.1) k l e

-- the root is missing in both, or in neither
pub no_root_goes : (headers : ℕ → Bool) (a xs : List ℕ) → Alike headers a xs → IsTrue (headers (root a)) → HasNoRoot a → HasNoRoot xs
no_root_goes headers a xs s i (inl l) =
    let r = s.roots in let m = s.long in inl (let q : length xs < root xs + HEAD_SIZE = omega arith in q)
no_root_goes headers a xs s i (inr n) = inr (λ e. n (kind_alike headers a xs s (root a) i ∙ ap (kind xs) s.roots ∙ e))
