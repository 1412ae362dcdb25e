-- The shown paths of sound layers make a tree: `are_tree`. The path above a shown one is shown
-- (`shown_above`) and a directory there, as anything else would cut what is below
-- (`directory_above`); and a directory has one path, as it has one in its layer.
use Rattle.std.proofs.Common.{◌≡◌, ◌≢◌, ◌∙◌, sym, ap, subst, ℕ, zero, suc, ◌⊎◌, inl, inr, List, [], ◌∷◌, ◌++◌, refl, Some, true, append_assoc}
use Rattle.std.specs.Prelude.{slice_get}
use Rattle.std.specs.List.{slice_index_or}
use Rattle.romfs_format.specs.declared.head.Kind.{Kind}
use Rattle.romfs_format.specs.declared.head.Kind.TheVariants.{HardLink, Directory, Regular, SymLink, Block, Character, Socket, Fifo}
use Rattle.romfs_format.specs.Fields.{root, kind}
use Rattle.romfs_format.specs.Chains.{Has}
use Rattle.romfs_format.specs.Links.{IsFinal}
use Rattle.romfs_reader.specs.Images.{IsImage}
use Rattle.romfs_reader.proofs.Keeps.{root_directory}
use Rattle.romfs_reader.proofs.Paths.{one_header}
use Rattle.layer_paths.proofs.Paths.{same_path_or_not}
use Rattle.stack_model.specs.Stack.{Path, IsPlain, IsIn, Cuts, IsFree, IsTop, Shows}
use Rattle.stack_model.specs.Listing.{Entry, IsAmong, IsShown, IsListing}
use Rattle.stack_model.specs.Numbers.{place}
use Rattle.stack_model.specs.Attributes.{is_directory, is_directory_at}
use Rattle.node_list.specs.Below.{AreImages, IsShownDirectory, AreTree}
use Rattle.node_list.proofs.OnePath.{one_directory, directory_stays, some_end, upper}

-- the path is empty or has a last name
snoc : (top : Path) → (top ≡ []) ⊎ ((q : Path) × (y : List ℕ) × (top ≡ q ++ y ∷ []))
snoc [] = inl refl
snoc (n ∷ top) = elim (snoc top) [ inl e ↦ inr ([], n, ap (λ r. n ∷ r) e) | inr (q, y, e) ↦ inr (n ∷ q, y, ap (λ r. n ∷ r) e) ]

plain_top : (top path : Path) → IsPlain (top ++ path) → IsPlain top
plain_top [] path p = tt
plain_top (n ∷ top) path p = (p.0, plain_top top path p.1)

is_kind : (k : Kind) → is_directory k ≡ true → k ≡ Directory
is_kind Directory e = refl
is_kind HardLink e = absurd (cc)
is_kind Regular e = absurd (cc)
is_kind SymLink e = absurd (cc)
is_kind Block e = absurd (cc)
is_kind Character e = absurd (cc)
is_kind Socket e = absurd (cc)
is_kind Fifo e = absurd (cc)

decide_kind : (k : Kind) → (k ≡ Directory) ⊎ (k ≢ Directory)
decide_kind Directory = inl refl
decide_kind HardLink = inr (λ e. cc)
decide_kind Regular = inr (λ e. cc)
decide_kind SymLink = inr (λ e. cc)
decide_kind Block = inr (λ e. cc)
decide_kind Character = inr (λ e. cc)
decide_kind Socket = inr (λ e. cc)
decide_kind Fifo = inr (λ e. cc)

indexed : (layers : List (List ℕ)) (i : ℕ) (a : List ℕ) → slice_get layers i ≡ Some a → slice_index_or layers i [] ≡ a
indexed [] i a e = absurd (cc)
indexed (b ∷ layers) zero a e = cc
indexed (b ∷ layers) (suc i) a e = indexed layers i a e

-- what shows a path has it
pub top_has : (layers : List (List ℕ)) (path : Path) (i h : ℕ) → IsTop layers path i h → (a : List ℕ) × (slice_get layers i ≡ Some a)
    × Has a path h
top_has [] path i h t = absurd t
top_has (a ∷ above) path zero h t = (a, refl, t.0)
top_has (a ∷ above) path (suc i) h t = top_has above path i h t

not_in : (layers : List (List ℕ)) (path : Path) (i : ℕ) (a : List ℕ) → IsFree layers path → slice_get layers i ≡ Some a → ¬ IsIn a path
not_in [] path i a f e = absurd (cc)
not_in (b ∷ layers) path zero a f e = let s : b ≡ a = cc in subst (λ x. ¬ IsIn x path) s f.0.0
not_in (b ∷ layers) path (suc i) a f e = not_in layers path i a f.1 e

not_cut : (layers : List (List ℕ)) (path : Path) (i : ℕ) (a : List ℕ) → IsFree layers path → slice_get layers i ≡ Some a → ¬ Cuts a path
not_cut [] path i a f e = absurd (cc)
not_cut (b ∷ layers) path zero a f e = let s : b ≡ a = cc in subst (λ x. ¬ Cuts x path) s f.0.1
not_cut (b ∷ layers) path (suc i) a f e = not_cut layers path i a f.1 e

later : (a : List ℕ) (layers : List (List ℕ)) → AreImages (a ∷ layers) → AreImages layers
later a layers s = record { each = λ i b e. s.each (suc i) b e }

module _ (top path : Path) (n : List ℕ) where
  abbrev full : Path
  full = top ++ n ∷ path

  -- what cuts the path above cuts the path
  cuts_more : (a : List ℕ) → IsPlain full → Cuts a top → Cuts a full
  cuts_more a p (t, (q, y, rest, e, c)) = (p, (q, y, rest ++ n ∷ path, ap (λ r. r ++ n ∷ path) e ∙ append_assoc q (y ∷ rest) (n ∷ path), c))

  -- a layer that has the path above as something other than a directory cuts the path
  other_cuts : (a : List ℕ) → IsImage a → IsPlain full → (g : ℕ) → Has a top g → kind a g ≢ Directory → Cuts a full
  other_cuts a i p g h k = elim (snoc top) [
    | inl e ↦ absurd (let z : root a ≡ g = subst (λ r. Has a r g) e h in k (rw (sym z) (root_directory a i)))
    | inr (q, y, e) ↦
        let w : Has a (q ++ y ∷ []) g = subst (λ r. Has a r g) e h in
        (p, (q, y, n ∷ path, ap (λ r. r ++ n ∷ path) e ∙ append_assoc q (y ∷ []) (n ∷ path), (upper a i q [] y g w, inr (inr (g, w, k)))))
  ]

  abbrev IsTopDirectory : List (List ℕ) → ℕ → ℕ → Type 0
  IsTopDirectory layers j g = (a : List ℕ) × (slice_get layers j ≡ Some a) × Has a top g × (kind a g ≡ Directory)

  -- what is shown above is a directory
  directory_above : (layers : List (List ℕ)) → AreImages layers → IsPlain full → (i h j g : ℕ) → IsTop layers full i h
      → IsTop layers top j g → IsTopDirectory layers j g
  directory_above [] s p i h j g t u = absurd t
  directory_above (a ∷ above) s p zero h zero g t u =
      let image = s.each 0 a refl in
      let d = upper a image top path n h t.0 in
      let same : g ≡ d.0 = one_header a image top (root a) g d.0 u.0 d.1 in
      (a, refl, u.0, subst (λ x. kind a x ≡ Directory) (sym same) d.2)
  directory_above (a ∷ above) s p zero h (suc j) g t u =
      let b = top_has above top j g u in (
        b.0,
        b.1,
        b.2,
        elim (decide_kind (kind b.0 g)) [
          | inl k ↦ k
          | inr k ↦ absurd (not_cut above full j b.0 t.1 b.1 (other_cuts b.0 (s.each (suc j) b.0 b.1) p g b.2 k))
        ],
      )
  directory_above (a ∷ above) s p (suc i) h zero g t u =
      let b = top_has above full i h t in
      let d = upper b.0 (s.each (suc i) b.0 b.1) top path n h b.2 in
      absurd (not_in above top i b.0 u.1 b.1 (d.0, d.1))
  directory_above (a ∷ above) s p (suc i) h (suc j) g t u = directory_above above (later a above s) p i h j g t u

  -- what leaves the path free leaves the path above free, or shows it
  free_or_shown : (layers : List (List ℕ)) → IsPlain full → IsFree layers full → (IsFree layers top → ⊥)
      → ((j g : ℕ) → IsTop layers top j g → ⊥) → ⊥
  free_or_shown [] p f x y = x tt
  free_or_shown (a ∷ above) p f x y =
      free_or_shown above p f.1
      (λ free. x (((λ (in_it : IsIn a top). y 0 in_it.0 (in_it.1, free)), (λ c. f.0.1 (cuts_more a p c))), free))
      (λ j g t. y (suc j) g t)

  -- the path above is shown
  shown_above : (layers : List (List ℕ)) → AreImages layers → IsPlain full → (i h : ℕ) → IsTop layers full i h
      → ((j g : ℕ) → IsTop layers top j g → ⊥) → ⊥
  shown_above [] s p i h t y = t
  shown_above (a ∷ above) s p zero h t y =
      let d = upper a (s.each 0 a refl) top path n h t.0 in
      free_or_shown above p t.1 (λ free. y 0 d.0 (d.1, free)) (λ j g u. y (suc j) g u)
  shown_above (a ∷ above) s p (suc i) h t y = shown_above above (later a above s) p i h t (λ j g u. y (suc j) g u)

find_path : (es : List Entry) (p : Path) → ((d : Entry) × IsAmong d es × (d.path ≡ p)) ⊎ ((d : Entry) → IsAmong d es → d.path ≢ p)
find_path [] p = inr (λ d a. absurd a)
find_path (e ∷ es) p = elim (same_path_or_not e.path p) [
  | inl s ↦ inl (e, inl refl, s.0)
  | inr s ↦ elim (find_path es p) [
    | inl (d, a, q) ↦ inl (d, inr a, q)
    | inr f ↦ inr (λ d a. elim a [ inl i ↦ (λ q. s.0 (rw i at q)) | inr b ↦ f d b ])
  ]
]

module _ (layers : List (List ℕ)) (entries : List Entry) (s : AreImages layers) (l : IsListing layers entries) where
  -- where an entry is from
  record IsFrom (e : Entry) : Type 0 where
    pub bytes : List ℕ
    pub first : ℕ
    pub is : slice_get layers e.layer ≡ Some bytes
    pub has : Has bytes e.path first
    pub ends : IsFinal bytes first e.header

  from : (e : Entry) → IsShown layers e → IsFrom e
  from e (h, shows, (b, is_b, f)) =
      let t = top_has layers e.path e.layer h shows.1 in
      let z : Some b ≡ Some t.0 = sym is_b ∙ t.1 in
      let same : b ≡ t.0 = cc in
      record { bytes = t.0; first = h; is = t.1; has = t.2; ends = subst (λ a. IsFinal a h e.header) same f }

  kind_from : (e : Entry) (a : List ℕ) → slice_get layers e.layer ≡ Some a → is_directory_at layers (place e)
      ≡ is_directory (kind a e.header)
  kind_from e a i = rw (indexed layers e.layer a i) refl

  once : (d e : Entry) → IsAmong d entries → IsAmong e entries → place d ≡ place e → is_directory_at layers (place d) ≡ true
      → d.path ≡ e.path
  once d e x y p k =
      let f = from d ((l.exact d).0 x) in
      let r = from e ((l.exact e).0 y) in
      let layer : d.layer ≡ e.layer = ap (λ (q : ℕ × ℕ). q.0) p in
      let header : d.header ≡ e.header = ap (λ (q : ℕ × ℕ). q.1) p in
      let z : Some r.bytes ≡ Some f.bytes = sym r.is ∙ ap (slice_get layers) (sym layer) ∙ f.is in
      let same : r.bytes ≡ f.bytes = cc in
      let dir : kind f.bytes d.header ≡ Directory = is_kind (kind f.bytes d.header) (sym (kind_from d f.bytes f.is) ∙ k) in
      one_directory f.bytes (s.each d.layer f.bytes f.is) d.path e.path d.header
      (record { header = f.first; has = f.has; final = f.ends })
      (record {
        header = r.first;
        has = subst (λ a. Has a e.path r.first) same r.has;
        final = subst (λ h. IsFinal f.bytes r.first h) (sym header) (subst (λ a. IsFinal a r.first e.header) same r.ends);
      })
      dir

  above : (e : Entry) (top path : Path) (n : List ℕ) → IsAmong e entries → e.path ≡ top ++ n ∷ path → IsShownDirectory layers entries top
  above e top path n a p = elim (find_path entries top) [ inl (d, b, q) ↦ (d, b, q, is_dir d b q) | inr f ↦ absurd (none f) ]
    where
      shown : (h : ℕ) × Shows layers (top ++ n ∷ path) e.layer h
      shown = let w = (l.exact e).0 a in (w.0, subst (λ r. Shows layers r e.layer w.0) p w.1)

      is_dir : (d : Entry) → IsAmong d entries → d.path ≡ top → is_directory_at layers (place d) ≡ true
      is_dir d b q =
          let w = (l.exact d).0 b in
          let f = from d w in
          let u : IsTop layers top d.layer w.0 = subst (λ r. IsTop layers r d.layer w.0) q w.1.1 in
          let t = directory_above top path n layers s shown.1.0 e.layer shown.0 d.layer w.0 shown.1.1 u in
          let c = w.2 in
          let z : Some c.0 ≡ Some t.0 = sym c.1 ∙ t.1 in
          let same : c.0 ≡ t.0 = cc in
          let stays : d.header ≡ w.0 = directory_stays t.0 (s.each d.layer t.0 t.1) w.0 d.header t.3
          (subst (λ x. IsFinal x w.0 d.header) same c.2) in
          kind_from d t.0 t.1 ∙ ap is_directory (ap (kind t.0) stays ∙ t.3)

      none : ((d : Entry) → IsAmong d entries → d.path ≢ top) → ⊥
      none f =
          shown_above top path n layers s shown.1.0 e.layer shown.0 shown.1.1 (λ j g t.
          let b = top_has layers top j g t in
          some_end b.0 (s.each j b.0 b.1) top g b.2 (λ x final.
          let d : Entry = record { path = top; layer = j; header = x } in
          f d ((l.exact d).1 (g, (plain_top top (n ∷ path) shown.1.0, t), (b.0, b.1, final))) refl))

  -- the entries of a listing of sound layers make a tree
  pub are_tree : AreTree layers entries
  are_tree = record { rising = l.rising; above = above; once = once }
