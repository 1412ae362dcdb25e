-- Which headers are opened, are members and are reached, by the chains that they are in, the root's
-- or others: each is said exactly (opened, some_member, reached), so the sets of headers in chains
-- decide it.
use Rattle.std.proofs.Common.{◌≡◌, ◌≢◌, ℕ, zero, suc, ◌⊎◌, inl, inr, ◌↔◌, List, Bool, true, false, not, IsTrue, refl, subst}
use Rattle.std.proofs.lemmas.Bool.{cases_eq}
use Rattle.romfs_format.specs.Fields.{root}
use Rattle.romfs_format.specs.Chains.{IsAt, IsInChain, IsDotted, IsPassedOver, IsOpened, at_root, below, IsMember, IsSomeMember}
use Rattle.romfs_format.specs.Links.{Field, first_of, next_of, IsLink, IsTarget, IsReached}
use Rattle.romfs_rules.specs.Marks.{IsInRootChain, IsElsewhere, Opens}
use Rattle.romfs_rules.specs.Leads.{IsInSomeChain}

module _ (a : List ℕ) where
  -- a header in an opened directory's chain is in the root's, or elsewhere
  pub in_some_chain : (d h : ℕ) → IsOpened a d → IsInChain a d h → IsInSomeChain a h
  in_some_chain d h o c = elim (cases_eq d (root a)) [
    | inl e ↦ inl (subst (λ y. IsInChain a y h) e c)
    | inr n ↦ inr (record { dir = d; other = n; opened = o; in_chain = c })
  ]

  -- the root is opened
  pub opened_root : (d : ℕ) → d ≡ root a → IsOpened a d
  opened_root d e = at_root e

  -- a directory that opens is opened wherever it is a member
  pub opened_in : (d : ℕ) → IsInSomeChain a d → d ≢ root a → Opens a d → IsOpened a d
  opened_in d (inl c) n o = below (at_root refl) c (elim [ inl x ↦ n x.1 | inr x ↦ o.kept x ]) o.inside o.kind
  opened_in d (inr e) n o = below e.opened e.in_chain (elim [ inl x ↦ e.other x.0 | inr x ↦ o.kept x ]) o.inside o.kind

  opens : (d : ℕ) → IsOpened a d → (d ≡ root a) ⊎ (IsInSomeChain a d × (d ≢ root a) × Opens a d)
  opens d (at_root e) = inl e
  opens d (below {d = c} o k p i t) = elim (cases_eq d (root a)) [
    | inl e ↦ inl e
    | inr n ↦ inr (in_some_chain c d o k, n, record { inside = i; kind = t; kept = λ x. p (inr x) })
  ]

  -- the opened directories are the root, and those in a chain that open
  pub opened : (d : ℕ) → IsOpened a d ↔ ((d ≡ root a) ⊎ (IsInSomeChain a d × (d ≢ root a) × Opens a d))
  opened d = (opens d, elim [ inl e ↦ at_root e | inr x ↦ opened_in d x.0 x.1 x.2 ])

  kept_in_root : (h : ℕ) → h ≢ root a → ¬ IsDotted a h → ¬ IsPassedOver a (root a) h
  kept_in_root h n k (inl x) = n x.1
  kept_in_root h n k (inr x) = k x

  kept_elsewhere : (d h : ℕ) → d ≢ root a → ¬ IsDotted a h → ¬ IsPassedOver a d h
  kept_elsewhere d h n k (inl x) = n x.0
  kept_elsewhere d h n k (inr x) = k x

  member_of : (d h : ℕ) → IsMember a d h → (IsInRootChain a h × (h ≢ root a)) ⊎ IsElsewhere a h
  member_of d h m = elim (cases_eq d (root a)) [
    | inl e ↦ inl (subst (λ y. IsInChain a y h) e m.in_chain, λ f. m.kept (inl (e, f)))
    | inr n ↦ inr (record { dir = d; other = n; opened = m.opened; in_chain = m.in_chain })
  ]

  to_member : (h : ℕ) → (IsInRootChain a h × (h ≢ root a)) ⊎ IsElsewhere a h → ¬ IsDotted a h → IsSomeMember a h
  to_member h (inl x) k = (root a, record { opened = at_root refl; in_chain = x.0; kept = kept_in_root h x.1 k })
  to_member h (inr e) k = (e.dir, record { opened = e.opened; in_chain = e.in_chain; kept = kept_elsewhere e.dir h e.other k })

  -- the members are the headers in a chain but for the root's own there, and but for . and ..
  pub some_member : (h : ℕ) → IsSomeMember a h ↔ (((IsInRootChain a h × (h ≢ root a)) ⊎ IsElsewhere a h) × ¬ IsDotted a h)
  some_member h = (λ m. (member_of m.0 h m.1, λ x. m.1.kept (inr x)), λ x. to_member h x.0 x.1)

  -- of a header in a chain, but for the root's own there, a test for . and .. says whether it is a
  -- member
  pub member_unless : (h : ℕ) (dotted : Bool) → (IsTrue dotted ↔ IsDotted a h)
      → (IsInRootChain a h × (h ≢ root a)) ⊎ IsElsewhere a h → IsTrue (not dotted) ↔ IsSomeMember a h
  member_unless h true t s = (λ e. cc, λ m. absurd (m.1.kept (inr (t.0 refl))))
  member_unless h false t s = (λ e. to_member h s (λ x. let y = t.1 x in cc), λ m. refl)

  -- a header that a field names is in some chain
  pub linked : (f : Field) (h : ℕ) → IsLink a f h → IsInSomeChain a h
  linked (first_of d) h l = in_some_chain d h l.0 (zero, l.1)
  linked (next_of g) h (d, s, n) = in_some_chain d h s.opened (suc s.in_chain.0, (g, s.in_chain.1, n))

  -- each header in an opened directory's chain is named by a field
  pub link_to : (d n h : ℕ) → IsOpened a d → IsAt a d n h → (f : Field) × IsLink a f h
  link_to d zero h o x = (first_of d, (o, x))
  link_to d (suc n) h o x = (next_of x.0, (d, record { opened = o; in_chain = (n, x.1) }, x.2))

  link_in : (h : ℕ) → IsInSomeChain a h → (f : Field) × IsLink a f h
  link_in h (inl c) = link_to (root a) c.0 h (at_root refl) c.1
  link_in h (inr e) = link_to e.dir e.in_chain.0 h e.opened e.in_chain.1

  -- the reached headers are the root's, those in chains, and those on members' destination chains
  pub reached : (h : ℕ) → IsReached a h ↔ ((h ≡ root a) ⊎ IsInRootChain a h ⊎ IsElsewhere a h ⊎ IsTarget a h)
  reached h = (to, from)
    where
      to : IsReached a h → (h ≡ root a) ⊎ IsInRootChain a h ⊎ IsElsewhere a h ⊎ IsTarget a h
      to (inl e) = inl e
      to (inr (inl l)) = elim (linked l.0 h l.1) [ inl c ↦ inr (inl c) | inr e ↦ inr (inr (inl e)) ]
      to (inr (inr t)) = inr (inr (inr t))

      from : (h ≡ root a) ⊎ IsInRootChain a h ⊎ IsElsewhere a h ⊎ IsTarget a h → IsReached a h
      from (inl e) = inl e
      from (inr (inl c)) = inr (inl (link_in h (inl c)))
      from (inr (inr (inl e))) = inr (inl (link_in h (inr e)))
      from (inr (inr (inr t))) = inr (inr t)

-- a member is in some chain
pub member_in_chain : (a : List ℕ) (h : ℕ) → IsSomeMember a h → IsInSomeChain a h
member_in_chain a h m = elim ((some_member a h).0 m).0 [ inl x ↦ inl x.0 | inr x ↦ inr x ]
