-- A symbolic link that a path of a sound image leads to has a short target (short_target) and a name
-- that is ended (named_target): it is a member, or on a member's destination chain (led_to), so it is
-- reached (used_reached) and lies in the image (used_inside), and the rules on targets and on names
-- speak of it.
use Rattle.std.proofs.Common.{◌≡◌, ◌≢◌, ◌∙◌, sym, subst, ℕ, zero, suc, ◌+◌, ◌≤◌, ◌⊎◌, inl, inr, List, [], ◌∷◌, Option, Some, None, length, arith, refl}
use Rattle.std.specs.Prelude.{IsSome, IsNone}
use Rattle.std.proofs.lemmas.Bool.{cases_lt}
use Rattle.romfs_format.specs.declared.head.Kind.TheVariants.{Directory, SymLink}
use Rattle.romfs_format.specs.declared.rule.Profile.TheVariants.{Usual}
use Rattle.romfs_format.specs.declared.rule.Rule.TheVariants.{NoRoot, Outside, NameOpen, TargetLong}
use Rattle.romfs_format.specs.declared.limits.TheConstants.{HEAD_SIZE, MAX_TARGET_SIZE}
use Rattle.romfs_format.specs.Fields.{image, root, IsInside, kind, size, name}
use Rattle.romfs_format.specs.Chains.{IsAt, IsOpened, IsMember, IsSomeMember, Leads, Has}
use Rattle.romfs_format.specs.Links.{first_of, next_of, IsHardLink, IsDestination, here, there, IsFinal, stays, follows, IsTarget, IsReached}
use Rattle.romfs_format.specs.Rules.{IsSound}

-- a chain of hard links ends where it begins, or on its destinations
pub final_target : (a : List ℕ) {h e : ℕ} → IsFinal a h e → (e ≡ h) ⊎ IsDestination a h e
final_target a (stays n) = inl refl
final_target a (follows {h = h} {e = e} l f) = elim (final_target a f) [
  | inl q ↦ inr (subst (λ x. IsDestination a h x) (sym q) (here l))
  | inr d ↦ inr (there l d)
]

-- only a hard link has a destination chain
pub destination_link : (a : List ℕ) {h g : ℕ} → IsDestination a h g → IsHardLink a h
destination_link a (here l) = l
destination_link a (there l d) = l

-- names lead nowhere, or to a member
leads_member : (a : List ℕ) (path : List (List ℕ)) (d h : ℕ) → Leads a d path h → (d ≡ h) ⊎ IsSomeMember a h
leads_member a [] d h e = inl e
leads_member a (n ∷ path) d h (c, m, e, rest) = elim (leads_member a path c h rest) [
  | inl q ↦ inr (d, subst (λ x. IsMember a d x) q m)
  | inr s ↦ inr s
]

-- a member is reached
chain_reached : (a : List ℕ) (d n h : ℕ) → IsOpened a d → IsAt a d n h → IsReached a h
chain_reached a d zero h o x = inr (inl (first_of d, (o, x)))
chain_reached a d (suc n) h o x = inr (inl (next_of x.0, (d, record { opened = o; in_chain = (n, x.1) }, x.2)))

some_name : (o : Option (List ℕ)) → ¬ IsNone o → IsSome o
some_name (Some n) f = refl
some_name None f = absurd (f refl)

module _ (b : List ℕ) (s : IsSound Usual b) where
  -- what is reached lies in the image
  reached_inside : (h : ℕ) → IsReached (image b) h → IsInside (image b) h
  reached_inside h r = elim (cases_lt h (root (image b))) [
    | inl l ↦ absurd (s.keeps Outside h (r, λ i. let j = i.0 in omega arith))
    | inr l ↦ elim (cases_lt (length (image b)) (h + HEAD_SIZE)) [
      | inl m ↦ absurd (s.keeps Outside h (r, λ i. let j = i.1 in omega arith))
      | inr m ↦ (l, m)
    ]
  ]

  -- the root is a directory
  root_directory : ¬ (kind (image b) (root (image b)) ≢ Directory)
  root_directory n = s.keeps NoRoot (root (image b)) (inr n, refl)

  -- where a path leads after hard links, if to no directory, is a member or the target of one
  led_to : (path : List (List ℕ)) (h e : ℕ) → Has (image b) path h → IsFinal (image b) h e
      → kind (image b) e ≢ Directory → IsSomeMember (image b) e ⊎ IsTarget (image b) e
  led_to path h e x f n = elim (leads_member (image b) path (root (image b)) h x) [
    | inl q ↦ absurd (elim (final_target (image b) f) [
      | inl p ↦ (let k = subst (λ y. kind (image b) y ≢ Directory) p n in
          root_directory (subst (λ y. kind (image b) y ≢ Directory) (sym q) k))
      | inr d ↦ (let k = (subst (λ y. IsHardLink (image b) y) (sym q) (destination_link (image b) d)).1 in root_directory (λ i. cc))
    ])
    | inr m ↦ elim (final_target (image b) f) [
      | inl p ↦ inl (m.0, subst (λ y. IsMember (image b) m.0 y) (sym p) m.1)
      | inr d ↦ inr (m.0, h, m.1, d)
    ]
  ]

  -- both are reached, and so lie in the image
  used_reached : (e : ℕ) → IsSomeMember (image b) e ⊎ IsTarget (image b) e → IsReached (image b) e
  used_reached e (inl m) = chain_reached (image b) m.0 m.1.in_chain.0 e m.1.opened m.1.in_chain.1
  used_reached e (inr t) = inr (inr t)

  used_inside : (e : ℕ) → IsSomeMember (image b) e ⊎ IsTarget (image b) e → IsInside (image b) e
  used_inside e u = reached_inside e (used_reached e u)

  -- a symbolic link that a path leads to, after hard links, has a target that is not too long
  pub short_target : (path : List (List ℕ)) (h e : ℕ) → Has (image b) path h → IsFinal (image b) h e
      → kind (image b) e ≡ SymLink → size (image b) e ≤ MAX_TARGET_SIZE
  short_target path h e x f k =
      let u = led_to path h e x f (λ i. cc) in
      elim (cases_lt MAX_TARGET_SIZE (size (image b) e)) [
        | inl l ↦ absurd (s.keeps TargetLong e ((used_inside e u, u), (k, l)))
        | inr l ↦ l
      ]

  -- and a name that is ended
  pub named_target : (path : List (List ℕ)) (h e : ℕ) → Has (image b) path h → IsFinal (image b) h e
      → kind (image b) e ≡ SymLink → IsSome (name (image b) e)
  named_target path h e x f k =
      let u = led_to path h e x f (λ i. cc) in
      some_name (name (image b) e) (λ o. s.keeps NameOpen e (used_reached e u, used_inside e u, no_root, o))
    where
      no_root : e ≢ root (image b)
      no_root q = root_directory (λ d.
          (let z : SymLink ≡ Directory = sym k ∙ subst (λ y. kind (image b) y ≡ Directory) (sym q) d in cc))
