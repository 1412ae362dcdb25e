-- One tree laid on another: the upper one leaves out entries of the lower one, its entries cover
-- what remains, and the marks are united, with marks for what the upper one's directories cover of
-- the lower one's files.
use Rattle.std.specs.Prelude.{◌≡◌, ◌≢◌, ℕ, ◌⊎◌, List, [], ◌∷◌, ◌++◌, Bool, true, false, not, ◌||◌, Option, Some, None, MatchOption, option_to_list, if◌then◌else◌}
use Rattle.layer_paths.specs.Rows.{Subtree, name_cmp, named, NamesRise, spread, whole, at_path, IsRising, IsForest, PathsRise}
use Rattle.std.specs.declared.cmp.Ordering.TheVariants.{Less}
use Rattle.layer_paths.specs.Laying.{laid_at, IsLaid}
use Rattle.stack_model.specs.Stack.{Path}
use Rattle.layer_paths.specs.declared.entries.Entry.{Entry}
use Rattle.layer_paths.specs.declared.entries.Mark.{Mark}
use Rattle.layer_paths.specs.Marks.{upper, united, cuts_itself, cut_by, mark_of, marked}
use Rattle.layer_paths.specs.Trees.{TreeRows, entry_at, removes}

-- the value, unless it is cut
abbrev pub unless : {T : Type 0} → Bool → Option T → Option T
unless cut value = if cut then None else value

-- these branches are what marks at and below their paths leave of the others
pub record AreKept {T : Type 0} (lows : List (Subtree T)) (marks : List (Subtree Mark))
    (out : List (Subtree T)) : Type 0 where
  pub forest : IsForest out
  pub at : (n : List ℕ) (path : Path)
      → at_path (spread out) (n ∷ path)
      ≡ unless (cut_by (λ q. at_path (spread marks) (n ∷ q)) path)
      (at_path (spread lows) (n ∷ path))

-- all of a branch is cut
pub record IsLeftOut (mark : Subtree Mark) : Type 0 where
  pub cut : (path : Path) → cut_by (at_path (whole mark)) path ≡ true

-- the branch is what marks leave of another one
pub record IsKept {T : Type 0} (low : Subtree T) (mark : Subtree Mark) (out : Subtree T)
    : Type 0 where
  pub name : out.name ≡ low.name
  pub rising : IsRising out
  pub at : (path : Path)
      → at_path (whole out) path
      ≡ unless (cut_by (at_path (whole mark)) path) (at_path (whole low) path)

-- what marks leave of a branch; none if they cut all of it
abbrev pub IsLeft : {T : Type 0} → Subtree T → Subtree Mark → Option (Subtree T) → Type 0
IsLeft low mark out = MatchOption out (IsLeftOut mark) (λ b. IsKept low mark b)

-- the first branch is removed from one list, and what a mark leaves of it added to the end of
-- another
pub record KeepsFirst {T : Type 0} (mark : Subtree Mark) (lows lows' kept kept' : List (Subtree T))
    : Type 0 where
  pub low : Subtree T
  pub left : Option (Subtree T)
  pub first : lows ≡ low ∷ lows'
  pub is : IsLeft low mark left
  pub added : kept' ≡ kept ++ option_to_list left

-- these branches are what a mark leaves below a branch that has the others as its children
pub record AreChildrenLeft {T : Type 0} (mark : Subtree Mark) (lows out : List (Subtree T))
    : Type 0 where
  pub forest : IsForest out
  pub kept : (n : List ℕ) (v : T)
      → IsKept (record { name = n; value = v; below = spread lows }) mark
      (record { name = n; value = v; below = spread out })

-- the tree is high laid on low
pub record Lays (low high out : TreeRows) : Type 0 where
  pub rising : PathsRise out.entries
  pub entries : (path : Path)
      → entry_at out path
      ≡ laid_at upper (unless (removes high path) (entry_at low path)) (entry_at high path)
  pub removed : (path : Path) → removes out path ≡ (removes low path || removes high path)

-- what two marks leave of the lower tree's entries, one after the other, is covered by the upper
-- tree's entries
pub record CoverTheKept (low high : Subtree Entry) (marks hidden : Subtree Mark)
    (out : Subtree Entry) : Type 0 where
  pub unmarked : Subtree Entry
  pub kept : Subtree Entry
  pub unmarked_is : IsKept low marks unmarked
  pub kept_is : IsKept unmarked hidden kept
  pub covered : IsLaid upper kept high out

-- the marks of both trees, and those of what was replaced
pub record AreUnited (low replaced high out : Subtree Mark) : Type 0 where
  pub above : Subtree Mark
  pub above_is : IsLaid united replaced high above
  pub united_is : IsLaid united low above out

-- whether there is something that does not cut itself
abbrev pub is_uncut : Option Mark → Bool
is_uncut None = false
is_uncut (Some m) = not m.cut

-- the branch cuts itself and has nothing below it
pub record IsBare {T : Type 0} (m : T → Mark) (s : Subtree T) : Type 0 where
  pub itself : (m s.value).cut ≡ true
  pub nothing : s.below ≡ []

-- only what cuts itself is at the path, and nothing below it
pub record IsLeafAt (others : Path → Option Mark) (path : Path) : Type 0 where
  pub itself : is_uncut (others path) ≡ false
  pub below : (n : List ℕ) (q : Path) → others (path ++ n ∷ q) ≡ None

-- marks of the paths at which the first of two trees cuts itself, and the other does not or has
-- something below: they cut only what the first cuts, and all of it if the other has more than
-- leaves
pub record Clash (files others marks : Path → Option Mark) : Type 0 where
  pub sound : (path : Path) → cut_by marks path ≡ true → cut_by files path ≡ true
  pub whole : (path : Path) → cuts_itself (files path) ≡ true
      → (cut_by marks path ≡ true) ⊎ IsLeafAt others path

-- the same for the branches of two directories
pub record AreClashes {T : Type 0} (m : T → Mark) (files others : List (Subtree T))
    (marks : List (Subtree Mark)) : Type 0 where
  pub forest : IsForest marks
  pub at : (n : List ℕ) → Clash (λ q. marked m (spread files) (n ∷ q))
      (λ q. marked m (spread others) (n ∷ q)) (λ q. at_path (spread marks) (n ∷ q))

-- the mark is that of all clashes of two branches
pub record IsClashMark {T : Type 0} (m : T → Mark) (file other : Subtree T)
    (mark : Subtree Mark) : Type 0 where
  pub name : mark.name ≡ file.name
  pub rising : IsRising mark
  pub at : Clash (marked m (whole file)) (marked m (whole other)) (at_path (whole mark))

-- the same for an optional mark
abbrev pub HasClash : {T : Type 0} → (T → Mark) → Subtree T → Subtree T → Option (Subtree Mark)
    → Type 0
HasClash m file other mark = MatchOption mark
    (Clash (marked m (whole file)) (marked m (whole other)) (λ q. None))
    (λ k. IsClashMark m file other k)

-- the same for two roots: no mark cuts the root itself
pub record AreRootClashes {T : Type 0} (m : T → Mark) (file other : Subtree T)
    (mark : Subtree Mark) : Type 0 where
  pub uncut : mark.value.cut ≡ false
  pub at : Clash (marked m (whole file)) (marked m (whole other)) (at_path (whole mark))

-- the entries of a tree laid on those of another one, by the marks of the upper tree and by those
-- of what it hides, and the marks of what it replaces
pub record AreEntriesLaid (low high : Subtree Entry) (marks : Subtree Mark) (out : Subtree Entry)
    (replaced : Subtree Mark) : Type 0 where
  pub hidden : Subtree Mark
  pub hidden_is : AreRootClashes mark_of high low hidden
  pub replaced_is : AreRootClashes mark_of low high replaced
  pub covers : CoverTheKept low high marks hidden out

-- the branches of two directories do not clash, whichever of them are the files
pub record AreApart {T : Type 0} (m : T → Mark) (lows highs : List (Subtree T)) : Type 0 where
  pub low_files : AreClashes m lows highs []
  pub high_files : AreClashes m highs lows []

-- the same for two branches
pub record IsApart {T : Type 0} (m : T → Mark) (low high : Subtree T) : Type 0 where
  pub low_file : Clash (marked m (whole low)) (marked m (whole high)) (λ q. None)
  pub high_file : Clash (marked m (whole high)) (marked m (whole low)) (λ q. None)

-- no branch has a name that comes before this one
abbrev pub NoneBefore : {T : Type 0} → List ℕ → List (Subtree T) → Type 0
NoneBefore name [] = Unit {0}
NoneBefore name (s ∷ ss) = name_cmp s.name name ≢ Less

-- the rest of the branches from a name on
pub record IsFrom {T : Type 0} (name : List ℕ) (branches rest : List (Subtree T)) : Type 0 where
  pub none : NoneBefore name rest
  pub names : NamesRise rest
  pub same : (n : List ℕ) → name_cmp n name ≢ Less → named n rest ≡ named n branches
