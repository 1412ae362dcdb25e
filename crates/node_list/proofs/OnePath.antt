-- The paths of a sound image: each header has one, and each is in directories. `one_way` is the main lemma: two ways down to a header are
-- the same, as a header is in one chain. From it `one_directory` follows for directories, to which no hard link leads.
use Rattle.std.proofs.Common.{◌≡◌, ◌∙◌, sym, ap, subst, ℕ, zero, suc, ◌⊎◌, inl, inr, List, [], ◌∷◌, ◌++◌, refl, Some}
use Rattle.std.proofs.lemmas.Bool.{cases_eq}
use Rattle.romfs_format.specs.declared.head.Kind.TheVariants.{HardLink, Directory}
use Rattle.romfs_format.specs.Fields.{root, IsInside, kind, name}
use Rattle.romfs_format.specs.Chains.{IsAt, IsOpened, at_root, below, IsMember, IsSomeMember, Leads, Has}
use Rattle.romfs_format.specs.Links.{first_of, next_of, IsHardLink, IsFinal, stays, follows}
use Rattle.romfs_format.proofs.Targets.{final_target}
use Rattle.romfs_reader.specs.Images.{IsImage}
use Rattle.romfs_reader.proofs.Hops.{is_hard}
use Rattle.romfs_reader.proofs.Keeps.{not_twice, not_loop, not_directory, root_directory, reached_inside}
use Rattle.stack_model.specs.Stack.{Path}

-- the names of the path in reverse order, before those of up
abbrev onto : Path → Path → Path
onto [] up = up
onto (n ∷ path) up = onto path (n ∷ up)

twice_onto : (path up : Path) → onto (onto path up) [] ≡ onto up path
twice_onto [] up = refl
twice_onto (n ∷ path) up = twice_onto path (n ∷ up)

same_onto : (p q : Path) → onto p [] ≡ onto q [] → p ≡ q
same_onto p q e = sym (twice_onto p []) ∙ ap (λ r. onto r []) e ∙ twice_onto q []

module _ (a : List ℕ) (i : IsImage a) where
  -- the names, the last first, lead down from the root to h
  abbrev IsDown : Path → ℕ → Type 0
  IsDown [] h = h ≡ root a
  IsDown (n ∷ up) h = (d : ℕ) × IsDown up d × IsMember a d h × (name a h ≡ Some n)

  down : (path up : Path) (d h : ℕ) → IsDown up d → Leads a d path h → IsDown (onto path up) h
  down [] up d h w e = subst (λ x. IsDown up x) e w
  down (n ∷ path) up d h w (c, m, s, l) = down path (n ∷ up) c h (d, w, m, s) l

  -- a header is in one chain
  one_chain : (d e k l h : ℕ) → IsOpened a d → IsOpened a e → IsAt a d k h → IsAt a e l h → d ≡ e
  one_chain d e zero zero h o p x y = elim (cases_eq d e) [
    | inl s ↦ s
    | inr n ↦ absurd
        (not_twice a i h (inl (first_of d, first_of e, (λ s. n cc), (o, x), (p, y))))
  ]
  one_chain d e zero (suc l) h o p x y =
      absurd (not_twice a i h (inl (first_of d, next_of y.0, (λ s. cc), (o, x), (e, record { opened = p; in_chain = (l, y.1) }, y.2))))
  one_chain d e (suc k) zero h o p x y =
      absurd (not_twice a i h (inl (first_of e, next_of x.0, (λ s. cc), (p, y), (d, record { opened = o; in_chain = (k, x.1) }, x.2))))
  one_chain d e (suc k) (suc l) h o p x y = elim (cases_eq y.0 x.0) [
    | inl s ↦ one_chain d e k l x.0 o p x.1 (subst (λ g. IsAt a e l g) s y.1)
    | inr n ↦ absurd (not_twice a i h (inl (
      next_of y.0,
      next_of x.0,
      (λ s. n cc),
      (e, record { opened = p; in_chain = (l, y.1) }, y.2),
      (d, record { opened = o; in_chain = (k, x.1) }, x.2),
    )))
  ]

  not_root : (d h : ℕ) → IsMember a d h → h ≡ root a → ⊥
  not_root d h m r = elim (cases_eq d (root a)) [
    | inl e ↦ m.kept (inl (e, r))
    | inr n ↦ not_twice a i h (inr (r, (d, n, record { opened = m.opened; in_chain = m.in_chain })))
  ]

  one_way : (p q : Path) (h : ℕ) → IsDown p h → IsDown q h → p ≡ q
  one_way [] [] h x y = refl
  one_way [] (n ∷ q) h x (d, w, m, s) = absurd (not_root d h m x)
  one_way (n ∷ p) [] h (d, w, m, s) y = absurd (not_root d h m y)
  one_way (n ∷ p) (k ∷ q) h (d, w, m, s) (e, v, l, t) =
      let c : e ≡ d = one_chain e d l.in_chain.0 m.in_chain.0 h l.opened m.opened l.in_chain.1 m.in_chain.1 in
      let z : Some n ≡ Some k = sym s ∙ t in
      let same : n ≡ k = cc in
      ap (λ r. r ∷ p) same ∙ ap (λ r. k ∷ r) (one_way p q d w (subst (λ x. IsDown q x) c v))

  one_path : (p q : Path) (h : ℕ) → Has a p h → Has a q h → p ≡ q
  one_path p q h x y = same_onto p q (one_way (onto p []) (onto q []) h (down p [] (root a) h refl x) (down q [] (root a) h refl y))

  -- the root, or a member
  root_or_member : (path : Path) (h : ℕ) → Has a path h → (h ≡ root a) ⊎ IsSomeMember a h
  root_or_member path h x = go (onto path []) (down path [] (root a) h refl x)
    where
      go : (up : Path) → IsDown up h → (h ≡ root a) ⊎ IsSomeMember a h
      go [] e = inl e
      go (n ∷ up) w = inr (w.0, w.2)

  root_not_hard : (h : ℕ) → h ≡ root a → IsHardLink a h → ⊥
  root_not_hard h e l = let d = root_directory a i in let k : kind a (root a) ≡ HardLink = rw e at l.1 in let z : HardLink ≡ Directory =
      sym k ∙ d in cc

  stayed : (h e : ℕ) → ¬ IsHardLink a h → IsFinal a h e → h ≡ e
  stayed h e n (stays m) = refl
  stayed h e n (follows l r) = absurd (n l)

  -- no hard link leads to a directory
  straight : (path : Path) (h e : ℕ) → Has a path h → IsFinal a h e → kind a e ≡ Directory → h ≡ e
  straight path h e x f k = elim (is_hard a h) [ inl l ↦ absurd (hard l) | inr n ↦ stayed h e n f ]
    where
      inside : IsHardLink a h → IsSomeMember a h → IsInside a e
      inside l m = elim (final_target a f) [ inl s ↦ rw s l.0 | inr t ↦ reached_inside a i e (inr (inr (m.0, h, m.1, t))) ]

      hard : IsHardLink a h → ⊥
      hard l = elim (root_or_member path h x) [
        | inl r ↦ root_not_hard h r l
        | inr m ↦ not_directory a i h (m, l, (e, f, (inside l m, k)))
      ]

  -- a path leads to e, once hard links are followed
  pub record LeadsTo (path : Path) (e : ℕ) : Type 0 where
    pub header : ℕ
    pub has : Has a path header
    pub final : IsFinal a header e

  -- a directory has one path
  pub one_directory : (p q : Path) (e : ℕ) → LeadsTo p e → LeadsTo q e → kind a e ≡ Directory → p ≡ q
  one_directory p q e x y k =
      let s : x.header ≡ e = straight p x.header e x.has x.final k in
      let t : y.header ≡ e = straight q y.header e y.has y.final k in
      one_path p q e (subst (λ z. Has a p z) s x.has) (subst (λ z. Has a q z) t y.has)

  -- hard links from a directory end at itself
  pub directory_stays : (h e : ℕ) → kind a h ≡ Directory → IsFinal a h e → e ≡ h
  directory_stays h e k (stays n) = refl
  directory_stays h e k (follows l r) = absurd (let j = l.1 in let z : HardLink ≡ Directory = sym j ∙ k in cc)

  -- hard links end
  pub some_end : (path : Path) (h : ℕ) → Has a path h → ((e : ℕ) → IsFinal a h e → ⊥) → ⊥
  some_end path h x f = elim (is_hard a h) [
    | inr n ↦ f h (stays n)
    | inl l ↦ elim (root_or_member path h x) [ inl r ↦ root_not_hard h r l | inr m ↦ not_loop a i h (m, l, f) ]
  ]

  opened_directory : {d : ℕ} → IsOpened a d → kind a d ≡ Directory
  opened_directory (at_root e) = rw e (root_directory a i)
  opened_directory (below o c n s k) = k

  -- a path is in a directory
  pub upper : (top path : Path) (n : List ℕ) (h : ℕ) → Has a (top ++ n ∷ path) h → (d : ℕ) × Has a top d × (kind a d ≡ Directory)
  upper top path n h x = go top (root a) x
    where
      go : (top : Path) (d : ℕ) → Leads a d (top ++ n ∷ path) h → (e : ℕ) × Leads a d top e × (kind a e ≡ Directory)
      go [] d (c, m, s, l) = (d, refl, opened_directory m.opened)
      go (k ∷ top) d (c, m, s, l) = let r = go top c l in (r.0, (c, m, s, r.1), r.2)
