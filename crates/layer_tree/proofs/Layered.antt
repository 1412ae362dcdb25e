-- What one layer cuts and shows, by its directories. The main lemma is tree_of_layer: the root's branch and mark are the layer's tree.
-- cuts_is says what a layer cuts by descending from the root, name by name, as branches are made; removed_cut and cut_removed are its two
-- directions.
use Rattle.std.proofs.Common.{◌≡◌, ◌≢◌, ◌∙◌, sym, ap, subst, ℕ, ◌⊎◌, ◌↔◌, inl, inr, List, [], ◌∷◌, ◌++◌, refl, arith, Option, Some, None, Bool, true, false, IsTrue, IsSomeAnd, ◌&&◌}
use Rattle.std.proofs.lemmas.Bool.{and_parts, or_left}
use Rattle.romfs_format.specs.declared.head.Kind.TheVariants.{Directory}
use Rattle.romfs_format.specs.Fields.{root, kind, name}
use Rattle.romfs_format.specs.Chains.{IsOpened, at_root, below, IsMember, Leads}
use Rattle.romfs_format.specs.Links.{IsFinal, stays, follows}
use Rattle.romfs_reader.specs.Images.{IsImage}
use Rattle.romfs_reader.proofs.Keeps.{root_directory}
use Rattle.stack_model.specs.Stack.{Path, IsPlain, marker, opaque, Cuts, Shows, IsCut}
use Rattle.stack_model.proofs.Joined.{alone}
use Rattle.layer_paths.specs.Rows.{Subtree, whole, at_path}
use Rattle.layer_paths.specs.declared.entries.Entry.{Entry}
use Rattle.layer_paths.specs.declared.entries.Mark.{Mark}
use Rattle.layer_paths.specs.Marks.{covered_by, removed_by, is_plain}
use Rattle.layer_paths.specs.Trees.{IsEntryOf, IsTreeOf}
use Rattle.layer_paths.proofs.Listed.{kind_read}
use Rattle.layer_tree.specs.Reading.{CutsFrom, CutsAt, IsEntryIn, IsBranchOf, RemovesFrom}
use Rattle.layer_tree.proofs.Plain.{plain_is}

-- hard links from a directory end at a directory
pub final_directory : (a : List ℕ) (h e : ℕ) → IsFinal a h e → kind a h ≡ Directory → kind a e ≡ Directory
final_directory a h e (stays n) k = k
final_directory a h e (follows l f) k = absurd (let m = l.1 in cc)

-- a path to a directory and the name of a member lead to the member
pub leads_on : (a : List ℕ) (d : ℕ) (q : Path) (e : ℕ) (n : List ℕ) (c : ℕ) → Leads a d q e → IsMember a e c → name a c ≡ Some n
    → Leads a d (q ++ n ∷ []) c
leads_on a d [] e n c l m f = (c, subst (λ x. IsMember a x c) (sym l) m, f, refl)
leads_on a d (k ∷ q) e n c (x, m', f', l) m f = (x, m', f', leads_on a x q e n c l m f)

-- the last name of a path is that of a member
pub last_member : (a : List ℕ) (d : ℕ) (q : Path) (n : List ℕ) (c : ℕ) → Leads a d (q ++ n ∷ []) c
    → (e : ℕ) × Leads a d q e × IsMember a e c × (name a c ≡ Some n)
last_member a d [] n c (x, m, f, l) = (d, refl, subst (λ y. IsMember a d y) l m, subst (λ y. name a y ≡ Some n) l f)
last_member a d (k ∷ q) n c (x, m, f, l) = let r = last_member a x q n c l in (r.0, (x, m, f, r.1), r.2, r.3)

module _ (a : List ℕ) where
  -- what a layer removes from the directory that the path q leads to from d
  abbrev Removes : ℕ → Path → List ℕ → Type 0
  Removes d q y =
      ((c : ℕ) × Leads a d (q ++ (marker ++ y) ∷ []) c) ⊎ ((c : ℕ) × Leads a d (q ++ opaque ∷ []) c)
      ⊎ ((c : ℕ) × Leads a d (q ++ y ∷ []) c × (kind a c ≢ Directory))

  -- what is removed is cut, from every directory above
  removed_cut : (d : ℕ) (q : Path) (y : List ℕ) (rest : Path) → Removes d q y → CutsFrom a d (q ++ y ∷ rest)
  removed_cut d [] y rest (inl x) = let r = last_member a d [] (marker ++ y) x.0 x.1 in
      inl (x.0, subst (λ e. IsMember a e x.0) (sym r.1) r.2, r.3)
  removed_cut d [] y rest (inr (inl x)) = let r = last_member a d [] opaque x.0 x.1 in
      inr (inl (x.0, subst (λ e. IsMember a e x.0) (sym r.1) r.2, r.3))
  removed_cut d [] y rest (inr (inr x)) = let r = last_member a d [] y x.0 x.1 in
      inr (inr (x.0, subst (λ e. IsMember a e x.0) (sym r.1) r.2, r.3, inl x.2))
  removed_cut d (k ∷ q) y rest (inl (c, (x, m, f, l))) = inr (inr (x, m, f, inr (removed_cut x q y rest (inl (c, l)))))
  removed_cut d (k ∷ q) y rest (inr (inl (c, (x, m, f, l)))) = inr (inr (x, m, f, inr (removed_cut x q y rest (inr (inl (c, l))))))
  removed_cut d (k ∷ q) y rest (inr (inr (c, (x, m, f, l), n))) = inr (inr (x, m, f, inr (removed_cut x q y rest (inr (inr (c, l, n))))))

  module _ (i : IsImage a) where
    -- what is opened is a directory
    pub opened_directory : {d : ℕ} → IsOpened a d → kind a d ≡ Directory
    opened_directory (at_root e) = subst (λ x. kind a x ≡ Directory) (sym e) (root_directory a i)
    opened_directory (below o c k s t) = t

  -- what is cut is removed from some directory
  pub record IsRemoved (d : ℕ) (path : Path) : Type 0 where
    pub above : Path
    pub first : List ℕ
    pub rest : Path
    pub is : path ≡ above ++ first ∷ rest
    pub inside : (e : ℕ) × Leads a d above e × IsOpened a e
    pub removes : Removes d above first

  removed_here : (d : ℕ) (n : List ℕ) (path : Path) → IsOpened a d → Removes d [] n → IsRemoved d (n ∷ path)
  removed_here d n path o r = record { above = []; first = n; rest = path; is = refl; inside = (d, refl, o); removes = r }

  cut_removed : (d : ℕ) (path : Path) → CutsFrom a d path → IsRemoved d path
  cut_removed d [] c = absurd c
  cut_removed d (n ∷ path) (inl (c, m, f)) =
      removed_here d n path m.opened (inl (c, leads_on a d [] d (marker ++ n) c refl m f))
  cut_removed d (n ∷ path) (inr (inl (c, m, f))) =
      removed_here d n path m.opened (inr (inl (c, leads_on a d [] d opaque c refl m f)))
  cut_removed d (n ∷ path) (inr (inr (c, m, f, inl k))) =
      removed_here d n path m.opened (inr (inr (c, leads_on a d [] d n c refl m f, k)))
  cut_removed d (n ∷ path) (inr (inr (c, m, f, inr x))) =
      let r = cut_removed c path x in
      record {
        above = n ∷ r.above;
        first = r.first;
        rest = r.rest;
        is = ap (λ p. n ∷ p) r.is;
        inside = (r.inside.0, (c, m, f, r.inside.1), r.inside.2);
        removes = elim r.removes [
          | inl y ↦ inl (y.0, (c, m, f, y.1))
          | inr (inl y) ↦ inr (inl (y.0, (c, m, f, y.1)))
          | inr (inr y) ↦ inr (inr (y.0, (c, m, f, y.1), y.2))
        ];
      }

module _ (a : List ℕ) (i : IsImage a) where
  -- a layer cuts a path exactly if that is plain and cut on the way down from the root
  pub cuts_is : (path : Path) → Cuts a path ↔ (IsPlain path × CutsFrom a (root a) path)
  cuts_is path = (
    λ c. (c.0, subst (CutsFrom a (root a)) (sym c.1.3) (removed_cut a (root a) c.1.0 c.1.1 c.1.2 c.1.4.1)),
    λ c. (let r = cut_removed a (root a) path c.1 in
        (c.0, (r.above, r.first, r.rest, r.is, ((r.inside.0, r.inside.1, opened_directory a i r.inside.2), r.removes)))),
  )

  module _ (layer : ℕ) (e : Subtree Entry) (k : Subtree Mark) (b : IsBranchOf a layer (root a) e)
      (m : RemovesFrom a (root a) (at_path (whole k)) e) where
    in_run : (h : ℕ) (x : Entry) → IsEntryIn a layer h x → IsEntryOf layer (a ∷ []) 0 h x
    in_run h x w = record { layer = omega (arith, w.number); end = (a, refl, w.final, w.is_read) }

    is_shown : (path : Path) (j h : ℕ) → Shows (a ∷ []) path j h → IsSomeAnd (at_path (whole e) path) (λ x. IsEntryOf layer (a ∷ []) j h x)
    is_shown path j h s =
        let t = (alone a path j h).0 s in
        weaker (at_path (whole e) path) (λ x w. subst (λ n. IsEntryOf layer (a ∷ []) n h x) (sym t.1) (in_run h x w))
        (b.shown path h t.0 t.2)
      where
        weaker : {P Q : Entry → Type 0} (o : Option Entry) → ((x : Entry) → P x → Q x) → IsSomeAnd o P → IsSomeAnd o Q
        weaker None f p = p
        weaker (Some x) f p = f x p

    is_only : (path : Path) (x : Entry) → at_path (whole e) path ≡ Some x → (j h : ℕ) × Shows (a ∷ []) path j h
        × IsEntryOf layer (a ∷ []) j h x
    is_only path x f =
        let w = b.only path x f in
        (0, w.1.0, (alone a path 0 w.1.0).1 (w.0, refl, w.1.1), in_run w.1.0 x w.1.2)

    root_cuts : (path : Path) → CutsAt a (root a) path → CutsFrom a (root a) path
    root_cuts path (inl n) = absurd (n (root_directory a i))
    root_cuts path (inr c) = c

    is_cut : (path : Path) → IsTrue (is_plain path && removed_by (at_path (whole k)) (at_path (whole e)) path) ↔ IsCut (a ∷ []) path
    is_cut path = (
      λ t. (let p = and_parts (is_plain path) (removed_by (at_path (whole k)) (at_path (whole e)) path) t in
          let plain = (plain_is path).0 p.0 in
          inl ((cuts_is path).1 (plain, root_cuts path ((m path plain).0 p.1)))),
      λ c. elim c [
        | inl x ↦ (let y = (cuts_is path).0 x in rw ((plain_is path).1 y.0) ((m path y.0).1 (inr y.1)))
        | inr x ↦ absurd x
      ],
    )

    -- the root's entry is a directory
    pub root_stays : e.value.kind ≡ Directory
    root_stays = let w = b.shown [] (root a) tt refl in kind_read a e.value w.is_read
        ∙ final_directory a (root a) e.value.place.header w.final (root_directory a i)

    -- no mark cuts the root
    pub root_kept : k.value.cut ≡ false
    root_kept = by k.value.cut refl
      where
        by : (c : Bool) → k.value.cut ≡ c → c ≡ false
        by false f = refl
        by true f = absurd (root_cuts [] ((m [] tt).0 (or_left k.value.cut (covered_by (at_path (whole e)) []) f)))

    -- the root's branch and its mark are the tree of the layer
    pub tree_of_layer : IsTreeOf layer (a ∷ []) (record { entries = whole e; marks = whole k })
    tree_of_layer = record { rising = b.rising.rises; shown = is_shown; only = is_only; cuts = is_cut }
