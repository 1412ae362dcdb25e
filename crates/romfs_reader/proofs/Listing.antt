-- The members of a directory: what is left of its chain when some headers are passed over. The test
-- `passes_over` says what the definition says (`passed`, `passes`), so what it keeps are the
-- members, and all of them (`are_members`), and the image gives them (`are_given`).
use Rattle.std.proofs.Common.{◌≡◌, sym, ap, subst, ℕ, zero, suc, ◌⊎◌, inl, inr, Bool, List, [], ◌∷◌, not, Option, Some, None, true, false, arith, refl, All, Contains, codes}
use Rattle.std.specs.Prelude.{slice_get}
use Rattle.std.specs.Option.{option_map_or}
use Rattle.std.proofs.lemmas.Bool.{and_from, and_parts, eq-eqb, eqb-true, false_from_ne_true, or_cases, or_left, or_right}
use Rattle.std.proofs.lemmas.List.Elements.{All-cons}
use Rattle.std.proofs.lemmas.Slice.Eq.{bytes_eq-Decides}
use Rattle.romfs_format.specs.declared.head.Head.{Head}
use Rattle.romfs_format.specs.Fields.{root, IsInside, name, is_dot_name}
use Rattle.romfs_format.specs.Chains.{IsAt, IsPassedOver, IsOpened, IsMember}
use Rattle.romfs_reader.specs.Images.{IsImage}
use Rattle.romfs_format.specs.Heads.{head_of}
use Rattle.romfs_reader.specs.Readers.{passes_over, kept, IsListed, IsGiven, AreMembers}
use Rattle.romfs_reader.proofs.Keeps.{good}

keeps : List ℕ → ℕ → ℕ → Bool
keeps a d h = not (passes_over a d h)

is_dot : (o : Option (List ℕ))
    → option_map_or is_dot_name o false ≡ true
    → (o ≡ Some (codes ".")) ⊎ (o ≡ Some (codes ".."))
is_dot None e = absurd (cc)
is_dot (Some n) e = elim (or_cases _ _ e) [
  | inl p ↦ inl (ap Some ((bytes_eq-Decides n (codes ".")).0 p))
  | inr p ↦ inr (ap Some ((bytes_eq-Decides n (codes "..")).0 p))
]

at_dots : (o : Option (List ℕ)) → (o ≡ Some (codes ".")) ⊎ (o ≡ Some (codes ".."))
    → option_map_or is_dot_name o false ≡ true
at_dots o (inl e) = rw e refl
at_dots o (inr e) = rw e refl

module _ (a : List ℕ) (d h : ℕ) (inside : IsInside a h) where
  -- a header that the test passes over is one to be passed over
  pub passed : passes_over a d h ≡ true → IsPassedOver a d h
  passed e = elim (or_cases _ _ e) [
    | inl p ↦ (let q = and_parts _ _ p in inl (eqb-true _ _ q.0, eqb-true _ _ q.1))
    | inr p ↦ inr (inside, is_dot (name a h) p)
  ]

  -- a header that is to be passed over is passed over by the test
  pub passes : IsPassedOver a d h → passes_over a d h ≡ true
  passes (inl x) = or_left _ _ (and_from _ _ (eq-eqb d (root a) x.0) (eq-eqb h (root a) x.1))
  passes (inr x) = or_right _ _ (at_dots (name a h) x.1)

  -- a header that the test keeps is not to be passed over
  pub kept_back : passes_over a d h ≡ false → ¬ IsPassedOver a d h
  kept_back e x = let t = passes x in cc

-- h is in the list hs
abbrev In : List ℕ → ℕ → Type 0
In hs h = (n : ℕ) × (slice_get hs n ≡ Some h)

module _ (a : List ℕ) (d : ℕ) where
  -- what holds of each listed header that is not passed over holds of all that are kept
  pub kept_all : (P : Head → Type 0) (hs : List ℕ) → ((h : ℕ) → In hs h → passes_over a d h ≡ false → P (head_of a h)) → All P (kept a d hs)
  kept_all P [] f = λ k e l. absurd (omega arith)
  kept_all P (h ∷ hs) f = test (kept_all P hs (λ g n p. f g (suc n.0, n.1) p)) (passes_over a d h) refl
    where
      test : All P (kept a d hs) → (b : Bool) → passes_over a d h ≡ b → All P (kept a d (h ∷ hs))
      test later true e = rw e later
      test later false e = rw e (All-cons P _ _ (f h (zero, refl) e) later)

  -- a listed header that is not passed over is among those that are kept
  pub kept_has : (hs : List ℕ) (n h : ℕ) → slice_get hs n ≡ Some h → passes_over a d h ≡ false → Contains (kept a d hs) (head_of a h)
  kept_has [] n h e p = absurd (cc)
  kept_has (g ∷ hs) zero h e p = let q : g ≡ h = cc in subst (λ x. Contains (kept a d (x ∷ hs)) (head_of a h)) (sym q)
      (rw p (zero, omega arith, refl))
  kept_has (g ∷ hs) (suc n) h e p = test (kept_has hs n h e p) (passes_over a d g) refl
    where
      test : Contains (kept a d hs) (head_of a h) → (b : Bool) → passes_over a d g ≡ b → Contains (kept a d (g ∷ hs)) (head_of a h)
      test c true q = rw q c
      test c false q = rw q (suc c.0, (let l = c.1 in omega arith), c.2)

module _ (a : List ℕ) (d : ℕ) (hs : List ℕ) (i : IsImage a) (o : IsOpened a d) (l : IsListed a d hs) where
  inside : (n h : ℕ) → IsAt a d n h → IsInside a h
  inside n h x = (good a i d o).inside n h x

  member : (h : ℕ) → In hs h → passes_over a d h ≡ false → IsMember a d h
  member h n e = let x = (l.each n.0 h).0 n.1 in record {
    opened = o;
    in_chain = (n.0, x);
    kept = kept_back a d h (inside n.0 h x) e;
  }

  -- what is kept of an opened directory's chain are its members
  pub are_members : AreMembers a d (kept a d hs)
  are_members = record {
    listed = (hs, l, refl);
    members = kept_all a d (λ head. IsMember a d head.offset) hs member;
    whole = λ h m. (let c = m.in_chain in kept_has a d hs c.0 h ((l.each c.0 h).1 c.1)
        (false_from_ne_true _ (λ e. m.kept (passed a d h (inside c.0 h c.1) e))));
  }

  -- the image gives each header that is kept
  pub are_given : All (λ head. IsGiven a head) (kept a d hs)
  are_given = kept_all a d (λ head. IsGiven a head) hs (λ h n e. record { is = refl; from = inr (inl (d, member h n e)) })
