-- The paths of a sound image. A directory has one member of a name, so a path has one header
-- (`one_header`); no path has more than 512 names (`short`); so all are found by going down every
-- directory 512 names deep (`all_paths`).
use Rattle.std.proofs.Common.{◌≡◌, ◌∙◌, sym, ap, subst, ℕ, zero, suc, ◌≤◌, inl, inr, List, [], ◌∷◌, length, map, Some, arith, refl, IsSome, Contains, ◌⊎◌}
use Rattle.std.specs.Prelude.{slice_get, unwrap_or}
use Rattle.std.specs.List.{flat_map}
use Rattle.std.proofs.lemmas.Bool.{cases_order, cases_lt}
use Rattle.std.proofs.lemmas.List.Elements.{Contains-append_left, Contains-append_right}
use Rattle.romfs_format.specs.declared.limits.TheConstants.{MAX_NAMES}
use Rattle.romfs_format.specs.declared.rule.Profile.TheVariants.{Usual}
use Rattle.romfs_format.specs.declared.rule.Rule.TheVariants.{SameName, TooDeep}
use Rattle.romfs_format.specs.Fields.{root, IsInside, name, spec, cleared}
use Rattle.romfs_format.specs.Chains.{IsFirst, IsAt, IsMember, IsSomeMember, Leads, Has}
use Rattle.romfs_format.specs.Heads.{name_of}
use Rattle.romfs_format.specs.Rules.{BreaksHeader}
use Rattle.romfs_reader.specs.Images.{IsImage}
use Rattle.romfs_reader.specs.Walks.{chain_from, places}
use Rattle.romfs_reader.proofs.Chain.{IsStart, at_before, listed}
use Rattle.romfs_reader.proofs.Keeps.{whole, good, reached_inside, member_reached}

in_flat : (f : ℕ → List (List (List ℕ))) (xs : List ℕ) (k c : ℕ) (p : List (List ℕ)) → slice_get xs k ≡ Some c → Contains (f c) p
    → Contains (flat_map f xs) p
in_flat f [] k c p e m = absurd (cc)
in_flat f (x ∷ xs) zero c p e m = let i : x ≡ c = cc in Contains-append_left (f x) (flat_map f xs) p
    (subst (λ y. Contains (f y) p) (sym i) m)
in_flat f (x ∷ xs) (suc k) c p e m = Contains-append_right (f x) (flat_map f xs) p (in_flat f xs k c p e m)

in_below : (n : List ℕ) (ps : List (List (List ℕ))) (p : List (List ℕ)) → Contains ps p → Contains (map (λ q. n ∷ q) ps) (n ∷ p)
in_below n [] p (k, l, e) = absurd (omega arith)
in_below n (q ∷ ps) p (zero, l, e) = (zero, omega arith, ap (λ x. n ∷ x) e)
in_below n (q ∷ ps) p (suc k, l, e) = let r = in_below n ps p (k, omega arith, e) in (suc r.0, (let s = r.1 in omega arith), r.2)

module _ (a : List ℕ) (i : IsImage a) where
  keeps_names : (h : ℕ) → ¬ BreaksHeader Usual a SameName h
  keeps_names h x = i.sound.keeps SameName h (subst (λ y. BreaksHeader Usual y SameName h) (sym (whole a i)) x)

  keeps_depth : (h : ℕ) → ¬ BreaksHeader Usual a TooDeep h
  keeps_depth h x = i.sound.keeps TooDeep h (subst (λ y. BreaksHeader Usual y TooDeep h) (sym (whole a i)) x)

  member_inside : (d h : ℕ) → IsMember a d h → IsInside a h
  member_inside d h m = reached_inside a i h (member_reached a i h (d, m))

  some_name : (h : ℕ) (n : List ℕ) → name a h ≡ Some n → IsSome (name a h)
  some_name h n e = rw e refl

  -- a directory has one member with a name
  one_member : (d g h : ℕ) (n : List ℕ) → IsMember a d g → IsMember a d h → name a g ≡ Some n → name a h ≡ Some n → g ≡ h
  one_member d g h n x y e f = elim (cases_order g h) [
    | inl s ↦ s
    | inr (inl l) ↦ absurd (keeps_names h (
      g,
      (
        l,
        (d, x, y),
        (member_inside d g x, some_name g n e),
        (member_inside d h y, some_name h n f),
        e ∙ sym f,
      ),
    ))
    | inr (inr l) ↦ absurd (keeps_names g (
      h,
      (
        l,
        (d, y, x),
        (member_inside d h y, some_name h n f),
        (member_inside d g x, some_name g n e),
        f ∙ sym e,
      ),
    ))
  ]

  -- names lead from a directory to one header
  pub one_header : (path : List (List ℕ)) (d g h : ℕ) → Leads a d path g → Leads a d path h → g ≡ h
  one_header [] d g h x y = sym x ∙ y
  one_header (n ∷ path) d g h x y =
      let e : y.0 ≡ x.0 = one_member d y.0 x.0 n y.1 x.1 y.2 x.2 in
      one_header path x.0 g h x.3 (subst (λ c. Leads a c path h) e y.3)

  -- a path of the image has at most MAX_NAMES names
  pub short : (path : List (List ℕ)) (h : ℕ) → Has a path h → length path ≤ MAX_NAMES
  short path h x = elim (cases_lt MAX_NAMES (length path)) [ inl l ↦ absurd (keeps_depth h (path, x, l)) | inr l ↦ l ]

  -- all paths of at most n names below d, and some more
  paths : ℕ → ℕ → List (List (List ℕ))
  paths zero d = [] ∷ []
  paths (suc n) d = [] ∷ flat_map (λ c. map (λ p. name_of a c ∷ p) (paths n c)) (chain_from a (places a) (cleared (spec a d)))

  starts : (d k c : ℕ) → IsAt a d k c → IsStart a d (cleared (spec a d))
  starts d k c x =
      let f = at_before a d k 0 c (omega arith) x in
      record { some = λ z. subst (λ y. IsFirst a d y) f.1.0 f.1; only = λ g y. y.0 }

  in_chain : (d c : ℕ) (m : IsMember a d c) → slice_get (chain_from a (places a) (cleared (spec a d))) m.in_chain.0 ≡ Some c
  in_chain d c m =
      let x = m.in_chain in
      let l = listed a d (cleared (spec a d)) (good a i d m.opened) (starts d x.0 c x.1) in
      (l.each x.0 c).1 x.1

  has_all : (n d : ℕ) (path : List (List ℕ)) (h : ℕ) → length path ≤ n → Leads a d path h → Contains (paths n d) path
  unfolding paths
  has_all zero d [] h l x = (zero, omega arith, refl)
  has_all (suc n) d [] h l x = (zero, omega arith, refl)
  has_all zero d (m ∷ path) h l x = absurd (omega arith)
  has_all (suc n) d (m ∷ path) h l (c, member, e, rest) =
      let below : Contains (map (λ p. name_of a c ∷ p) (paths n c)) (name_of a c ∷ path) = in_below
      (name_of a c) (paths n c) path (has_all n c path h (omega arith) rest) in
      let same : name_of a c ≡ m = ap (λ o. unwrap_or o []) e in
      let here = in_flat (λ c. map (λ p. name_of a c ∷ p) (paths n c))
      (chain_from a (places a) (cleared (spec a d))) member.in_chain.0 c (name_of a c ∷ path)
      (in_chain d c member) below in
      Contains-append_right ([] ∷ []) _ (m ∷ path) (subst
      (λ y. Contains (flat_map (λ c. map (λ p. name_of a c ∷ p) (paths n c))
      (chain_from a (places a) (cleared (spec a d)))) (y ∷ path)) same here)

  -- there is a list of all paths of the image
  pub all_paths : (all : List (List (List ℕ))) × ((path : List (List ℕ)) (h : ℕ) → Has a path h → Contains all path)
  all_paths = (paths MAX_NAMES (root a), λ path h x. has_all MAX_NAMES (root a) path h (short path h x) x)

-- what holds of the paths of a sound image
pub ruleset path_laws = (one_header, short, all_paths)

-- names from a directory lead to that directory, if there are none, or to a member
pub leads_to : (a : List ℕ) (path : List (List ℕ)) (d h : ℕ) → Leads a d path h → (d ≡ h) ⊎ IsSomeMember a h
leads_to a [] d h l = inl l
leads_to a (n ∷ path) d h (c, m, f, l) =
    elim (leads_to a path c h l) [ inl e ↦ inr (subst (λ x. IsSomeMember a x) e (d, m)) | inr x ↦ inr x ]
