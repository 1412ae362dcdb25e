-- A directory with the branches of its members has those of all paths from it. The main lemma is folder, about its entries (entries_of) and
-- what it removes (removes_of); single is the same for a file. A mark that cuts nothing is left out (made_as_needed).
use Rattle.std.proofs.Common.{◌≡◌, ◌≢◌, ◌∙◌, sym, ap, subst, ℕ, ◌↔◌, inl, inr, List, [], ◌∷◌, ◌++◌, refl, Some, None, Option, Bool, true, false, ◌||◌, not, IsTrue, IsSomeAnd, length, arith}
use Rattle.std.specs.Prelude.{◌==◌, slice_get, is_some, option_map, MatchOption}
use Rattle.std.proofs.lemmas.Bool.{or_cases, or_left, or_right}
use Rattle.romfs_format.specs.declared.head.Kind.TheVariants.{Directory}
use Rattle.romfs_format.specs.Fields.{kind, name}
use Rattle.romfs_format.specs.Chains.{IsMember, Leads}
use Rattle.romfs_reader.specs.Images.{IsImage}
use Rattle.romfs_reader.proofs.Paths.{one_header}
use Rattle.stack_model.specs.Stack.{Path, IsPlain, marker, opaque}
use Rattle.stack_model.specs.Attributes.{is_directory}
use Rattle.layer_paths.specs.Rows.{Subtree, spread, whole, named, at_path, IsForest}
use Rattle.layer_paths.specs.Laying.{AreLaid}
use Rattle.layer_paths.proofs.Spread.{through, at_spread}
use Rattle.layer_paths.proofs.Rising.{branch_rises}
use Rattle.layer_paths.proofs.Lists.{all_get}
use Rattle.layer_paths.specs.declared.entries.Entry.{Entry}
use Rattle.layer_paths.specs.declared.entries.Mark.{Mark}
use Rattle.layer_tree.specs.Members.{NamedMember}
use Rattle.layer_paths.specs.Marks.{cut_by, mark_of, covered_by, removed_by}
use Rattle.layer_paths.specs.Marks.{united}
use Rattle.layer_tree.specs.Reading.{IsNamedMember, AreByName, HasNamed, CutsFrom, CutsAt, IsEntryIn, IsBranchOf, RemovesFrom, IsBranchAlone, AreBranchesOf, IsMadeOf, IsBlank, AreBuilt, AreWhiteouts, rest_of_opaque}
use Rattle.layer_paths.proofs.NoDirectory.{not_directory}
use Rattle.layer_paths.proofs.Cutting.{nothing_cut, cut_same, cut_through, by_name, by_through}
use Rattle.layer_paths.proofs.Listed.{kind_read}
use Rattle.layer_tree.proofs.Removing.{file_covers}
use Rattle.layer_tree.proofs.Joining.{cut_united}
use Rattle.layer_tree.proofs.Stepping.{all_cut}
use Rattle.layer_tree.proofs.Layered.{opened_directory, final_directory}
use Rattle.layer_tree.proofs.Building.{no_markers, forests, white_forest, FoundBuilt, nowhere, somewhere, find_built, FoundWhite, unmarked, marked, find_white}

-- what is not a directory has no members
no_member : (a : List ℕ) (i : IsImage a) (h c : ℕ) → kind a h ≢ Directory → IsMember a h c → ⊥
no_member a i h c n m = n (opened_directory a i m.opened)

-- an entry that is not a directory needs no mark
pub single : (a : List ℕ) (i : IsImage a) (layer h : ℕ) (n : List ℕ) (entry : Entry)
    → kind a h ≢ Directory → entry.kind ≢ Directory → IsEntryIn a layer h entry
    → IsBranchAlone a layer h n (record { name = n; value = entry; below = [] })
single a i layer h n entry other file w = record {
  name = refl;
  entries = record { rising = record { rises = (tt, tt) }; shown = shown; only = only };
  exact = λ path p. (
    (λ t. inl other),
    (λ c. or_right (cut_by (λ q. None) path) (covered_by (at_path (whole (record { name = n; value = entry; below = [] }))) path)
        (file_covers (at_path (whole (record { name = n; value = entry; below = [] }))) path [] path refl
        (ap not (not_directory entry.kind file)))),
  );
}
  where
    shown : (path : Path) (g : ℕ) → IsPlain path → Leads a h path g
        → IsSomeAnd (at_path (whole (record { name = n; value = entry; below = [] })) path)
        (λ e. IsEntryIn a layer g e)
    shown [] g p l = subst (λ x. IsEntryIn a layer x entry) l w
    shown (m ∷ path) g p l = absurd (no_member a i h l.0 other l.1)

    only : (path : Path) (e : Entry) → at_path (whole (record { name = n; value = entry; below = [] })) path
        ≡ Some e → IsPlain path × ((g : ℕ) × Leads a h path g × IsEntryIn a layer g e)
    only [] e f = (let s : entry ≡ e = cc in (tt, (h, refl, subst (IsEntryIn a layer h) s w)))
    only (m ∷ path) e f = absurd (cc)

-- what is made from the members of the directory h: branches of those that are not markers, with the marks below these, marks of the
-- markers, and both kinds of marks as one
pub record IsMadeOfMembers (a : List ℕ) (layer h : ℕ) (ms : List NamedMember) (es : List (Subtree Entry))
    (below whites marks : List (Subtree Mark)) : Type 0 where
  pub sound : IsImage a
  pub members : AreByName a h ms
  pub built : AreBuilt a layer ms es below
  pub whited : AreWhiteouts ms whites
  pub laid : AreLaid united below whites marks

module _ (a : List ℕ) (layer h : ℕ) (ms : List NamedMember) (es : List (Subtree Entry)) (below whites marks : List (Subtree Mark))
    (found : IsMadeOfMembers a layer h ms es below whites marks) where
  has_at : (j : ℕ) (m : NamedMember) → slice_get ms j ≡ Some m → IsNamedMember a h m
  has_at j m e = all_get (IsNamedMember a h) ms j m found.members.each e

  -- the member of a name is among the sorted ones
  member_at : (n : List ℕ) (c : ℕ) → IsMember a h c → name a c ≡ Some n
      → (j : ℕ) × (m : NamedMember) × (slice_get ms j ≡ Some m) × (m.head.offset ≡ c) × (m.name ≡ n)
  member_at n c x f =
      let w = found.members.whole c x in
      let e = has_at w.0 w.1 w.2 in
      let g : Some w.1.name ≡ Some n = sym e.name ∙ ap (name a) w.3 ∙ f in
      (w.0, w.1, w.2, w.3, (let q : w.1.name ≡ n = cc in q))

  entries_forest : IsForest es
  entries_forest = (forests a layer found.built found.members.rising).0

  one_member : (n : List ℕ) (c d : ℕ) → IsMember a h c → name a c ≡ Some n → IsMember a h d → name a d ≡ Some n → c ≡ d
  one_member n c d x f y g = one_header a found.sound (n ∷ []) h c d (c, x, f, refl) (d, y, g, refl)

  shown_below : (n : List ℕ) (path : Path) (g : ℕ) → IsPlain (n ∷ path) → Leads a h (n ∷ path) g
      → FoundBuilt a layer h n ms es below → IsSomeAnd (through (named n es) path) (λ e. IsEntryIn a layer g e)
  shown_below n path g p l (nowhere f k q) = (let m = member_at n l.0 l.1 l.2 in absurd (p.0 (q m.0 m.1 m.2 m.4)))
  shown_below n path g p l (somewhere m e k f u r s t v x) =
      let here : m.head.offset ≡ l.0 = one_member n m.head.offset l.0 t.member (t.name ∙ ap Some r) l.1 l.2 in
      rw f (v.shown path g p.1 (subst (λ x. Leads a x path g) (sym here) l.3))

  only_below : (n : List ℕ) (path : Path) (e : Entry) → through (named n es) path ≡ Some e
      → FoundBuilt a layer h n ms es below
      → IsPlain (n ∷ path) × ((g : ℕ) × Leads a h (n ∷ path) g × IsEntryIn a layer g e)
  only_below n path e x (nowhere f k q) = (let y = rw f at x in absurd (cc))
  only_below n path e x (somewhere m b k f u r s t v y) =
      let w = v.only path e (rw f at x) in
      ((s, w.0), (w.1.0, (m.head.offset, t.member, t.name ∙ ap Some r, w.1.1), w.1.2))

  -- the entry of a directory, over its members' branches, has all paths from it
  pub entries_of : (n : List ℕ) (entry : Entry) → IsEntryIn a layer h entry
      → IsBranchOf a layer h (record { name = n; value = entry; below = spread es })
  entries_of n entry w = record { rising = branch_rises n entry es entries_forest; shown = shown; only = only }
    where
      shown : (path : Path) (g : ℕ) → IsPlain path → Leads a h path g
          → IsSomeAnd (at_path (whole (record { name = n; value = entry; below = spread es })) path)
          (λ e. IsEntryIn a layer g e)
      shown [] g p l = subst (λ x. IsEntryIn a layer x entry) l w
      shown (m ∷ path) g p l = rw (at_spread es entries_forest.names m path)
          (shown_below m path g p l (find_built a layer h m found.built found.members.each found.members.rising))

      only : (path : Path) (e : Entry) → at_path (whole
          (record { name = n; value = entry; below = spread es })) path ≡ Some e
          → IsPlain path × ((g : ℕ) × Leads a h path g × IsEntryIn a layer g e)
      only [] e f = (let s : entry ≡ e = cc in (tt, (h, refl, subst (IsEntryIn a layer h) s w)))
      only (m ∷ path) e f = only_below m path e (sym (at_spread es entries_forest.names m path) ∙ f)
          (find_built a layer h m found.built found.members.each found.members.rising)

  -- a marker's mark represents a marker among the members
  white_is : (n : List ℕ) (path : Path) → FoundWhite n ms whites → (cut_through (named n whites) path ≡ true) ↔ HasNamed a h (marker ++ n)
  white_is n path (unmarked f q) = (
    λ e. (let y = rw f at e in absurd (cc)),
    λ x. (let m = member_at (marker ++ n) x.0 x.1 x.2 in
        absurd (q m.0 m.1 m.2 m.4)),
  )
  white_is n path (marked j m k f c s e) = (
    λ y. (let t = has_at j m s in (m.head.offset, t.member, t.name ∙ ap Some e)),
    λ x. rw f ((all_cut k c).cut path),
  )

  -- what is removed below a name is what the layer cuts from the member of that name
  below_is : (n : List ℕ) (path : Path) → IsPlain (n ∷ path) → FoundBuilt a layer h n ms es below
      → (removed_by (through (named n below)) (through (named n es)) path ≡ true)
      ↔ ((c : ℕ) × IsMember a h c × (name a c ≡ Some n) × CutsAt a c path)
  below_is n path p (nowhere f k q) = (
    λ e. absurd (let y : (cut_by (λ q. None) path || cut_by (λ q. None) path) ≡ true = rw (f, k) at e in let z = nothing_cut path in cc),
    λ x. (let m = member_at n x.0 x.1 x.2 in absurd (p.0 (q m.0 m.1 m.2 m.4))),
  )
  below_is n path p (somewhere m e k f g r s t v w) = (
    λ y. (m.head.offset, t.member, t.name ∙ ap Some r, (w path p.1).0 (rw (f, g) at y)),
    λ x. (
        let here : x.0 ≡ m.head.offset = one_member n x.0 m.head.offset x.1 x.2 t.member (t.name ∙ ap Some r) in
        rw (f, g) ((w path p.1).1 (subst (λ c. CutsAt a c path) here x.3))),
  )

  -- what the marks of the entire directory say: it is opaque, or a name in it is cut
  cut_name : (n : List ℕ) (path : Path) → cut_by (λ q. at_path (spread marks) (n ∷ q)) path
      ≡ (cut_through (named n below) path || cut_through (named n whites) path)
  cut_name n path =
      let f = (forests a layer found.built found.members.rising).1 in
      let w = white_forest found.whited found.members.rising in
      cut_united (λ q. at_path (spread marks) (n ∷ q)) (λ q. at_path (spread below) (n ∷ q)) (λ q. at_path (spread whites) (n ∷ q))
      (λ q. found.laid.at n q) path
      ∙ ap (λ x. x || cut_by (λ q. at_path (spread whites) (n ∷ q)) path) (by_name below f.names n path)
      ∙ ap (λ x. cut_through (named n below) path || x) (by_name whites w.names n path)

  module _ (whole_cut : Bool) (is_whole : (whole_cut ≡ true) ↔ HasNamed a h opaque) (directory : kind a h ≡ Directory)
      (entry : Entry) (in_layer : IsEntryIn a layer h entry) where
    branch : List ℕ → Subtree Entry
    branch n = record { name = n; value = entry; below = spread es }

    -- the names below the directory's own that the markers cut, or what the members leave
    from_cuts : (n : List ℕ) (path : Path) → IsPlain (n ∷ path) → CutsFrom a h (n ∷ path)
        → (whole_cut || (removed_by (through (named n below)) (through (named n es)) path || cut_through (named n whites) path)) ≡ true
    from_cuts n path p (inl x) = or_right whole_cut _
        (or_right (removed_by (through (named n below)) (through (named n es)) path) _ ((white_is n path (find_white n found.whited)).1 x))
    from_cuts n path p (inr (inl x)) = or_left whole_cut _ (is_whole.1 x)
    from_cuts n path p (inr (inr x)) = or_right whole_cut _
        (or_left (removed_by (through (named n below)) (through (named n es)) path) _ ((below_is n path p
        (find_built a layer h n found.built found.members.each found.members.rising)).1 x))

    to_cuts : (n : List ℕ) (path : Path) → IsPlain (n ∷ path)
        → (whole_cut || (removed_by (through (named n below)) (through (named n es)) path || cut_through (named n whites) path)) ≡ true
        → CutsFrom a h (n ∷ path)
    to_cuts n path p e = elim (or_cases whole_cut _ e) [
      | inl x ↦ inr (inl (is_whole.0 x))
      | inr y ↦ elim (or_cases (removed_by (through (named n below)) (through (named n es)) path) _ y) [
        | inl x ↦ inr (inr ((below_is n path p (find_built a layer h n found.built found.members.each found.members.rising)).0 x))
        | inr x ↦ inl ((white_is n path (find_white n found.whited)).0 x)
      ]
    ]

    down : (path : Path) → CutsAt a h path → CutsFrom a h path
    down path (inl n) = absurd (n directory)
    down path (inr c) = c

    is_folder : is_directory entry.kind ≡ true
    is_folder = ap is_directory (kind_read a entry in_layer.is_read ∙ final_directory a h entry.place.header in_layer.final directory)

    in_turn : (w x y z k : Bool) → k ≡ false → ((w || (x || y)) || ((k || false) || z)) ≡ (w || ((x || z) || y))
    in_turn true x y z k e = refl
    in_turn false true y z k e = refl
    in_turn false false true z false e = sym (or_right z true refl)
    in_turn false false false true false e = refl
    in_turn false false false false false e = refl
    in_turn false false y z true e = absurd (cc)

    covered_name : (n : List ℕ) (path : Path) → covered_by (λ q. at_path (spread es) (n ∷ q)) path ≡ covered_by (through (named n es)) path
    covered_name n path = cut_same (λ q. option_map mark_of (at_path (spread es) (n ∷ q)))
        (λ q. option_map mark_of (through (named n es) q))
        (λ q. ap (λ x. option_map mark_of x) (at_spread es entries_forest.names n q)) path

    -- what the branch and the mark of the directory remove
    removed_name : (k : List ℕ) (n : List ℕ) (path : Path)
        → removed_by (at_path (whole (record { name = k; value = record { cut = false; opaque = whole_cut }; below = spread marks })))
        (at_path (whole (record { name = k; value = entry; below = spread es }))) (n ∷ path)
        ≡ (whole_cut || (removed_by (through (named n below)) (through (named n es)) path || cut_through (named n whites) path))
    removed_name k n path =
        ap (λ x. (whole_cut || x) || ((not (is_directory entry.kind) || false) || covered_by (λ q. at_path (spread es) (n ∷ q)) path))
        (cut_name n path)
        ∙ ap (λ x. (whole_cut || (cut_through (named n below) path || cut_through (named n whites) path))
        || ((not (is_directory entry.kind) || false) || x)) (covered_name n path)
        ∙ in_turn whole_cut (cut_through (named n below) path) (cut_through (named n whites) path) (covered_by (through (named n es)) path)
        (not (is_directory entry.kind)) (ap not is_folder)
        ∙ ap (λ x. whole_cut || ((x || covered_by (through (named n es)) path) || cut_through (named n whites) path))
        (sym (by_through (named n below) path))

    -- the mark and the entry of a directory remove exactly what the layer cuts from it
    pub removes_of : (n : List ℕ) → RemovesFrom a h
        (at_path (whole (record { name = n; value = record { cut = false; opaque = whole_cut }; below = spread marks })))
        (record { name = n; value = entry; below = spread es })
    removes_of n [] p = (λ t. absurd (let x = ap not is_folder in cc), λ c. absurd (down [] c))
    removes_of n (m ∷ path) p = (
      λ t. inr (to_cuts m path p (sym (removed_name n m path) ∙ t)),
      λ c. removed_name n m path ∙ from_cuts m path p (down (m ∷ path) c),
    )

    -- the directory's own branches
    pub folder : (n : List ℕ)
        → AreBranchesOf a layer h n (record { name = n; value = entry; below = spread es })
        (record { name = n; value = record { cut = false; opaque = whole_cut }; below = spread marks })
    folder n = record {
      entry_name = refl;
      mark_name = refl;
      entries = entries_of n entry in_layer;
      rising = branch_rises n (record { cut = false; opaque = whole_cut }) marks found.laid.forest;
      exact = removes_of n;
    }

  -- a mark has the name of an opaque marker after .wh. exactly if the directory has that marker
  pub opaque_is_held : (is_some (named rest_of_opaque whites) ≡ true) ↔ HasNamed a h opaque
  opaque_is_held = go (find_white rest_of_opaque found.whited)
    where
      go : FoundWhite rest_of_opaque ms whites → (is_some (named rest_of_opaque whites) ≡ true) ↔ HasNamed a h opaque
      go (unmarked f q) = (λ e. absurd (let y = rw f at e in cc), λ x. absurd (let m = member_at opaque x.0 x.1 x.2 in q m.0 m.1 m.2 m.4))
      go (marked j m k f c s e) = (λ y. (let t = has_at j m s in (m.head.offset, t.member, t.name ∙ ap Some e)), λ x. rw f refl)

-- a mark that cuts nothing is not needed
pub alone_without : (a : List ℕ) (layer h : ℕ) (n : List ℕ) (e : Subtree Entry) (k : Subtree Mark)
    → AreBranchesOf a layer h n e k → IsBlank k → IsBranchAlone a layer h n e
alone_without a layer h n e k w blank = record { name = w.entry_name; entries = w.entries; exact = exact }
  where
    nothing : (path : Path) → cut_by (at_path (whole k)) path ≡ false
    nothing [] = blank.uncut
    nothing (n ∷ path) = rw (blank.uncut, blank.clear, blank.nothing) (nothing_cut path)

    exact : RemovesFrom a h (λ q. None) e
    exact path p =
        let same : removed_by (λ q. None) (at_path (whole e)) path ≡ removed_by (at_path (whole k)) (at_path (whole e)) path
        = ap (λ x. x || covered_by (at_path (whole e)) path) (nothing_cut path ∙ sym (nothing path)) in
        subst (λ x. IsTrue x ↔ CutsAt a h path) (sym same) (w.exact path p)

-- a directory of which all members have branches, and none a mark, and its entry
pub record IsPlainFolder (a : List ℕ) (layer h : ℕ) (ms : List NamedMember) (es : List (Subtree Entry))
    (ks : List (Subtree Mark)) (entry : Entry) : Type 0 where
  pub sound : IsImage a
  pub directory : kind a h ≡ Directory
  pub members : AreByName a h ms
  pub built : AreBuilt a layer ms es ks
  pub whole : length es ≡ length ms
  pub unmarked : ks ≡ []
  pub stands : IsEntryIn a layer h entry

-- its branch needs no mark
pub plain_folder : (a : List ℕ) (layer h : ℕ) (ms : List NamedMember) (es : List (Subtree Entry)) (ks : List (Subtree Mark))
    (entry : Entry) (n : List ℕ) → IsPlainFolder a layer h ms es ks entry
    → IsBranchAlone a layer h n (record { name = n; value = entry; below = spread es })
plain_folder a layer h ms es ks entry n plain =
    let found : IsMadeOfMembers a layer h ms es [] [] [] = record {
      sound = plain.sound;
      members = plain.members;
      built = subst (λ xs. AreBuilt a layer ms es xs) plain.unmarked plain.built;
      whited = no_markers a layer plain.built plain.whole;
      laid = record { forest = record { names = tt; each = tt }; at = λ x p. refl };
    } in
    let both = folder a layer h ms es [] [] [] found false (opaque_is_held a layer h ms es [] [] [] found) plain.directory entry
    plain.stands n in
    alone_without a layer h n (record { name = n; value = entry; below = spread es })
    (record { name = n; value = record { cut = false; opaque = false }; below = [] }) both
    (record { uncut = refl; clear = refl; nothing = refl })

-- a mark that itself cuts nothing is blank exactly if it has no branches
pub blank_below : (k : Subtree Mark) (ks : List (Subtree Mark)) (none : Bool) → k.value.cut ≡ false → k.value.opaque ≡ false
    → k.below ≡ spread ks → none ≡ (length ks == 0) → (IsTrue none → IsBlank k) × (IsBlank k → IsTrue none)
blank_below k [] none u o b e = (λ t. record { uncut = u; clear = o; nothing = b }, λ blank. e)
blank_below k (s ∷ ss) none u o b e = (λ t. absurd (grind (arith, t, e)), λ blank. (let f = sym b ∙ blank.nothing in absurd (cc)))

-- a mark if one is needed
pub made_as_needed : (a : List ℕ) (layer h : ℕ) (n : List ℕ) (e : Subtree Entry) (k : Subtree Mark) (o : Option (Subtree Mark))
    → AreBranchesOf a layer h n e k → MatchOption o (IsBlank k) (λ s. (s ≡ k) × ¬ IsBlank k) → IsMadeOf a layer h n (e, o)
made_as_needed a layer h n e k None w p = alone_without a layer h n e k w p
made_as_needed a layer h n e k (Some s) w p = subst (λ x. AreBranchesOf a layer h n e x) (sym p.0) w
