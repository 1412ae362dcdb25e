-- For a sound layer it is decided which paths it has and which it cuts, and hard links from each path end. What is decided for each member
-- is decided for some (member_decided): has_decided and cut_decided go down a path with this. has_end takes no more hops than there are
-- places.
use Rattle.std.proofs.Common.{◌≡◌, ◌≢◌, ◌∙◌, sym, ap, subst, ℕ, zero, suc, ◌<◌, ◌⊎◌, ◌↔◌, inl, inr, List, [], ◌∷◌, ◌++◌, Option, Some, None, Bool, true, false, refl, arith, Contains}
use Rattle.std.proofs.lemmas.Bool.{cases_eq}
use Rattle.std.proofs.lemmas.List.Elements.{All-contains, Contains-append_right}
use Rattle.romfs_format.specs.declared.head.Kind.TheVariants.{Directory}
use Rattle.romfs_format.specs.declared.head.Head.{Head}
use Rattle.romfs_format.specs.Fields.{root, kind, name, spec, cleared}
use Rattle.romfs_format.specs.Chains.{IsFirst, IsOpened, at_root, below, IsMember, Leads, Has}
use Rattle.romfs_format.specs.Links.{IsFinal, stays, follows, destination}
use Rattle.romfs_format.specs.Heads.{head_of}
use Rattle.romfs_reader.specs.Images.{IsImage}
use Rattle.romfs_reader.specs.Readers.{kept}
use Rattle.romfs_reader.specs.Walks.{chain_from, places}
use Rattle.romfs_reader.proofs.Chain.{at_before, listed}
use Rattle.romfs_reader.proofs.Keeps.{good, reached_inside, member_reached}
use Rattle.romfs_reader.proofs.Listing.{are_members}
use Rattle.romfs_reader.proofs.Hops.{is_hard, LeavesWithin, hops, count}
use Rattle.romfs_reader.proofs.Given.{sets_out}
use Rattle.romfs_reader.proofs.Paths.{leads_to}
use Rattle.stack_model.specs.Stack.{Path, IsPlain, marker, opaque, IsIn, Cuts}
use Rattle.layer_paths.proofs.Names.{same_or_not}
use Rattle.layer_paths.specs.Marks.{is_plain}
use Rattle.layer_tree.specs.Reading.{HasNamed, CutsFrom}
use Rattle.layer_tree.proofs.Plain.{plain_is}
use Rattle.layer_tree.proofs.Layered.{opened_directory, cuts_is}
use Rattle.layer_tree.proofs.Parents.{is_directory_or_not}

-- it holds, or it does not
abbrev pub IsDecided : Type 0 → Type 0
IsDecided P = P ⊎ ¬ P

-- if two things are decided, it is decided whether both hold
pub both_decided : {P Q : Type 0} → IsDecided P → IsDecided Q → IsDecided (P × Q)
both_decided (inl p) (inl q) = inl (p, q)
both_decided (inl p) (inr n) = inr (λ x. n x.1)
both_decided (inr n) q = inr (λ x. n x.0)

either_decided : {P Q : Type 0} → IsDecided P → IsDecided Q → IsDecided (P ⊎ Q)
either_decided (inl p) q = inl (inl p)
either_decided (inr n) (inl q) = inl (inr q)
either_decided (inr n) (inr m) = inr (λ x. elim x [ inl p ↦ n p | inr q ↦ m q ])

-- if one thing is decided, so is its opposite
pub not_decided : {P : Type 0} → IsDecided P → IsDecided (¬ P)
not_decided (inl p) = inr (λ n. n p)
not_decided (inr n) = inl n

decided_as : {P Q : Type 0} → (P ↔ Q) → IsDecided P → IsDecided Q
decided_as f (inl p) = inl (f.0 p)
decided_as f (inr n) = inr (λ q. n (f.1 q))

same_name : (o : Option (List ℕ)) (n : List ℕ) → IsDecided (o ≡ Some n)
same_name None n = inr (λ e. cc)
same_name (Some m) n = elim (same_or_not m n) [ inl x ↦ inl (ap Some x.0) | inr x ↦ inr (λ e. x.0 (let q : m ≡ n = cc in q)) ]

-- it is decided whether a path is plain
pub plain_decided : (path : Path) → IsDecided (IsPlain path)
plain_decided path = go (is_plain path) refl
  where
    go : (b : Bool) → is_plain path ≡ b → IsDecided (IsPlain path)
    go true e = inl ((plain_is path).0 e)
    go false e = inr (λ p. let f = sym e ∙ (plain_is path).1 p in cc)

-- what a list contains is its first element, or in the rest
pub first_or_later : {X : Type 0} (x y : X) (xs : List X) → Contains (x ∷ xs) y → (x ≡ y) ⊎ Contains xs y
first_or_later x y xs (zero, l, e) = inl e
first_or_later x y xs (suc k, l, e) = inr (k, omega arith, e)

some_decided : {X : Type 0} (P : X → Type 0) (xs : List X) → ((x : X) → Contains xs x → IsDecided (P x))
    → IsDecided ((x : X) × Contains xs x × P x)
some_decided P [] f = inr (λ s. let l = s.1.1 in omega arith)
some_decided P (x ∷ xs) f = elim (f x (zero, omega arith, refl)) [
  | inl p ↦ inl (x, (zero, omega arith, refl), p)
  | inr n ↦ elim (some_decided P xs (λ y c. f y (Contains-append_right (x ∷ []) xs y c))) [
    | inl s ↦ inl (s.0, Contains-append_right (x ∷ []) xs s.0 s.1, s.2)
    | inr m ↦ inr (λ s. elim (first_or_later x s.0 xs s.1) [ inl e ↦ n (subst P (sym e) s.2) | inr c ↦ m (s.0, c, s.2) ])
  ]
]

module _ (a : List ℕ) (i : IsImage a) where
  -- the chain of a directory begins where spec.info says, or is empty
  first_or_none : (d : ℕ) → IsFirst a d (cleared (spec a d)) ⊎ ((g : ℕ) → ¬ IsFirst a d g)
  first_or_none d = elim (cases_eq (cleared (spec a d)) 0) [
    | inl z ↦ inr (λ g f. f.1 (f.0 ∙ z))
    | inr nz ↦ elim (cases_eq (cleared (spec a d)) d) [
      | inr n ↦ inl (refl, nz, λ e. absurd (n e))
      | inl e ↦ elim (cases_eq d (root a)) [
        | inl r ↦ inl (refl, nz, λ f. r)
        | inr n ↦ inr (λ g f. n (f.2 (f.0 ∙ e)))
      ]
    ]
  ]

  -- the members of a directory are few, so what is decided of each is decided of some
  member_decided : (d : ℕ) → IsOpened a d → (P : ℕ → Type 0) → ((c : ℕ) → IsMember a d c → IsDecided (P c))
      → IsDecided ((c : ℕ) × IsMember a d c × P c)
  member_decided d o P f = elim (first_or_none d) [
    | inr none ↦ inr (λ s. let g = at_before a d s.1.in_chain.0 0 s.0 (omega arith) s.1.in_chain.1 in none g.0 g.1)
    | inl first ↦ (
        let hs = chain_from a (places a) (cleared (spec a d)) in
        let l = listed a d (cleared (spec a d)) (good a i d o) (record { some = λ z. first; only = λ g y. y.0 }) in
        let ms = are_members a d hs i o l in
        let is = All-contains (λ (head : Head). IsMember a d head.offset) (kept a d hs) in
        elim (some_decided (λ (head : Head). P head.offset) (kept a d hs) (λ head c. f head.offset (is head ms.members c))) [
          | inl s ↦ inl (s.0.offset, is s.0 ms.members s.1, s.2)
          | inr n ↦ inr (λ s. n (head_of a s.0, ms.whole s.0 s.1, s.2))
        ])
  ]

  opened_decided : (d c : ℕ) → IsMember a d c → IsDecided (IsOpened a c)
  opened_decided d c m = elim (is_directory_or_not (kind a c)) [
    | inl k ↦ inl (below m.opened m.in_chain m.kept (reached_inside a i c (member_reached a i c (d, m))) k)
    | inr n ↦ inr (λ o. n (opened_directory a i o))
  ]

  leads_decided : (path : Path) (d : ℕ) → IsDecided (IsOpened a d) → IsDecided ((h : ℕ) × Leads a d path h)
  leads_decided [] d o = inl (d, refl)
  leads_decided (n ∷ path) d (inr shut) = inr (λ s. shut s.1.1.opened)
  leads_decided (n ∷ path) d (inl o) = decided_as
      (λ s. (s.2.1.0, (s.0, s.1, s.2.0, s.2.1.1)), λ s. (s.1.0, s.1.1, (s.1.2, (s.0, s.1.3))))
      (member_decided d o (λ c. (name a c ≡ Some n) × ((h : ℕ) × Leads a c path h))
      (λ c m. both_decided (same_name (name a c) n) (leads_decided path c (opened_decided d c m))))

  named_decided : (d : ℕ) → IsOpened a d → (n : List ℕ) → IsDecided (HasNamed a d n)
  named_decided d o n = member_decided d o (λ c. name a c ≡ Some n) (λ c m. same_name (name a c) n)

  cuts_decided : (path : Path) (d : ℕ) → IsDecided (IsOpened a d) → IsDecided (CutsFrom a d path)
  cuts_decided [] d o = inr (λ x. x)
  cuts_decided (n ∷ path) d (inr shut) =
      inr (λ x. elim x [ inl y ↦ shut y.1.opened | inr (inl y) ↦ shut y.1.opened | inr (inr y) ↦ shut y.1.opened ])
  cuts_decided (n ∷ path) d (inl o) =
      either_decided (named_decided d o (marker ++ n)) (either_decided (named_decided d o opaque)
      (decided_as (λ s. (s.0, s.1, s.2.0, s.2.1), λ s. (s.0, s.1, (s.2, s.3)))
      (member_decided d o (λ c. (name a c ≡ Some n) × ((kind a c ≢ Directory) ⊎ CutsFrom a c path))
      (λ c m. both_decided (same_name (name a c) n) (either_decided
      (not_decided (is_directory_or_not (kind a c))) (cuts_decided path c (opened_decided d c m)))))))

  -- it is decided whether the layer has the path
  pub has_decided : (path : Path) → IsDecided (IsIn a path)
  has_decided path = leads_decided path (root a) (inl (at_root refl))

  -- it is decided whether the layer cuts the path
  pub cut_decided : (path : Path) → IsDecided (Cuts a path)
  cut_decided path =
      let r = cuts_is a i path in
      decided_as (r.1, r.0) (both_decided (plain_decided path) (cuts_decided path (root a) (inl (at_root refl))))

  end_within : (n h : ℕ) → LeavesWithin a (places a) h → count a (places a) h < n → (e : ℕ) × IsFinal a h e
  end_within zero h w l = absurd (omega arith)
  end_within (suc n) h w l = elim (is_hard a h) [
    | inr m ↦ (h, stays m)
    | inl k ↦ (let s = hops a (places a) h k w in
        let f = s.1 in
        let r = end_within n (destination a h) s.0 (omega arith) in
        (r.0, follows k r.1))
  ]

  -- hard links from a path end
  pub has_end : (path : Path) (h : ℕ) → Has a path h → (e : ℕ) × IsFinal a h e
  has_end path h x =
      let out = sets_out a i (head_of a h) (record {
        is = refl;
        from = elim (leads_to a path (root a) h x) [ inl r ↦ inl (sym r) | inr m ↦ inr (inl m) ];
      }) in
      end_within (suc (count a (places a) h)) h out.leaves (omega arith)
