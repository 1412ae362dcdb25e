-- The rows of children. Rowing is the loop over children: it starts with none, a child is a directory or something else (follows gives its
-- place), and it ends with AddsRows.
use Rattle.std.proofs.Common.{◌≡◌, ◌∙◌, sym, ap, subst, ℕ, zero, suc, ◌+◌, ◌-◌, ◌<◌, ◌≤◌, List, [], ◌∷◌, ◌++◌, length, map, take, drop, get_or, refl, arith, append_assoc, length-append, Bool, true, false}
use Rattle.std.specs.List.{AllByRecursion}
use Rattle.std.specs.declared.cmp.Ordering.TheVariants.{Less}
use Rattle.std.proofs.lemmas.List.Sums.{count_by_more_yes, count_by_more_no}
use Rattle.std.proofs.lemmas.List.{append-nil, map_push, take_all, take_rest, drop_at}
use Rattle.romfs_format.specs.declared.head.Kind.{Kind}
use Rattle.romfs_format.specs.declared.head.Kind.TheVariants.{Directory}
use Rattle.stack_model.specs.Attributes.{is_directory}
use Rattle.layer_paths.specs.Rows.{Subtree, whole, NamesRise, name_cmp}
use Rattle.layer_paths.specs.declared.entries.Place.{Place}
use Rattle.layer_paths.specs.declared.entries.Entry.{Entry}
use Rattle.layer_names.specs.Names.{Rise}
use Rattle.node_reader.specs.Rows.{Line, names}
use Rattle.node_reader.specs.Directories.{HeldDirectories}
use Rattle.node_table.specs.declared.building.First.{First}
use Rattle.node_table.specs.Building.{line_in, count_directories, HasNumberAndSize, AreFollowing, AddsRows, AddsLinked, AddsNothing, AddsByKind}
use Rattle.layer_paths.proofs.NoDirectory.{not_directory}
use Rattle.node_table.proofs.Lists.{take_one_more}

-- how far the rows of children have come
pub record Rowing (tell : Place → ℕ) (cs : List (Subtree Entry)) (old new : List Line) (n i : ℕ) : Type 0 where
  pub rows : new ≡ old ++ map (line_in tell) (take i cs)
  pub count : n ≡ count_directories (take i cs)
  pub few : n ≤ i

-- the row of the next child is added
pub record AddsRow (tell : Place → ℕ) (cs : List (Subtree Entry)) (i : ℕ) (c : Subtree Entry) (old new : List Line) : Type 0 where
  pub within : i < length cs
  pub here : c ≡ get_or cs i c
  pub line : Line
  pub line_is : line ≡ line_in tell c
  pub pushed : new ≡ old ++ line ∷ []

module _ (tell : Place → ℕ) (cs : List (Subtree Entry)) (i : ℕ) (c : Subtree Entry) (old rows rows' : List Line) (n : ℕ)
    (so_far : Rowing tell cs old rows n i) (adds : AddsRow tell cs i c rows rows') where
  rows_now : rows' ≡ old ++ map (line_in tell) (take (i + 1) cs)
  rows_now =
      adds.pushed ∙ ap (λ x. x ++ adds.line ∷ []) so_far.rows ∙ append_assoc old (map (line_in tell) (take i cs)) (adds.line ∷ [])
      ∙ ap (λ x. old ++ x) (ap (λ l. map (line_in tell) (take i cs) ++ l ∷ []) adds.line_is
      ∙ sym (ap (map (line_in tell)) (take_one_more cs i c adds.within adds.here) ∙ map_push (line_in tell) (take i cs) c))

  kind_here : (test : Kind → Bool) (b : Bool) → test c.value.kind ≡ b → test (get_or cs i c).value.kind ≡ b
  kind_here test b is = ap (λ (s : Subtree Entry). test s.value.kind) (sym adds.here) ∙ is

  -- the row of a directory is added, and the directory counted
  pub directory : c.value.kind ≡ Directory → Rowing tell cs old rows' (n + 1) (i + 1)
  directory is_one =
      let more = count_by_more_yes (λ (s : Subtree Entry). is_directory s.value.kind) cs i c adds.within
      (kind_here is_directory true (ap is_directory is_one)) in
      let few = so_far.few in
      record { rows = rows_now; count = ap (λ k. k + 1) so_far.count ∙ sym more; few = omega arith }

  -- the row of any other child is added, and nothing counted
  pub other : (c.value.kind ≡ Directory → ⊥) → Rowing tell cs old rows' n (i + 1)
  other is_none =
      let same = count_by_more_no (λ (s : Subtree Entry). is_directory s.value.kind) cs i c adds.within
      (kind_here is_directory false (not_directory c.value.kind is_none)) in
      let few = so_far.few in
      record { rows = rows_now; count = so_far.count ∙ sym same; few = omega arith }

-- for children that follow one another, the next one is here and the rest after it
pub follows : (tell : Place → ℕ) (numbers sizes : List ℕ) (at : ℕ) (cs : List (Subtree Entry)) (i : ℕ) (c : Subtree Entry) → i < length cs
    → c ≡ get_or cs i c → AreFollowing tell numbers sizes at (drop i cs) → HasNumberAndSize tell numbers sizes at c
    × AreFollowing tell numbers sizes (at + length (whole c)) (drop (i + 1) cs)
follows tell numbers sizes at cs i c l e f = let n : suc i ≡ i + 1 = omega arith in let r = go cs i l e f in
    (r.0, subst (λ n. AreFollowing tell numbers sizes (at + length (whole c)) (drop n cs)) n r.1)
  where
    go : (cs : List (Subtree Entry)) (i : ℕ) → i < length cs → c ≡ get_or cs i c → AreFollowing tell numbers sizes at (drop i cs)
        → HasNumberAndSize tell numbers sizes at c × AreFollowing tell numbers sizes (at + length (whole c)) (drop (suc i) cs)
    go [] i l e f = absurd (omega arith)
    go (x ∷ cs) zero l e f = subst (λ (y : Subtree Entry). HasNumberAndSize tell numbers sizes at y × AreFollowing tell numbers sizes
        (at + length (whole y)) (drop 0 cs)) (sym e) (
          f.0,
          subst (AreFollowing tell numbers sizes (at + length (whole x)))
              (sym (all cs)) f.1,
        )
      where
        all : (cs : List (Subtree Entry)) → drop 0 cs ≡ cs
        all [] = refl
        all (y ∷ cs) = refl
    go (x ∷ cs) (suc i) l e f = go cs i (omega arith) e f

-- before the first child no row is added
pub rows_begun : (tell : Place → ℕ) (cs : List (Subtree Entry)) (old : List Line) → Rowing tell cs old old 0 0
rows_begun tell cs old = record { rows = sym (append-nil old); count = refl; few = omega arith }

-- after the last child the rows of all are added
pub rows_ended : (tell : Place → ℕ) (cs : List (Subtree Entry)) (old new : List Line) (n i : ℕ) → length cs ≤ i → Rowing tell cs old new n i
    → AddsRows tell cs old new n
rows_ended tell cs old new n i le r = record {
  rows_are = r.rows ∙ ap (λ x. old ++ map (line_in tell) x) (take_all i cs le);
  count_is = r.count ∙ ap count_directories (take_all i cs le);
}

-- rows of branches come in the order of their names
pub names_rise : (tell : Place → ℕ) (cs : List (Subtree Entry)) → NamesRise cs → Rise (names (map (line_in tell) cs))
names_rise tell [] r i j d l m = absurd (omega arith)
names_rise tell (c ∷ cs) r zero zero d l m = absurd (omega arith)
names_rise tell (c ∷ cs) r zero (suc j) d l m = after cs r.0 j (omega arith)
  where
    after : (cs : List (Subtree Entry)) → AllByRecursion (λ (s : Subtree Entry). name_cmp c.name s.name ≡ Less) cs → (j : ℕ)
        → j < length (names (map (line_in tell) cs)) → name_cmp c.name (get_or (names (map (line_in tell) cs)) j d) ≡ Less
    after [] a j m = absurd (omega arith)
    after (s ∷ cs) a zero m = a.0
    after (s ∷ cs) a (suc j) m = after cs a.1 j (omega arith)
names_rise tell (c ∷ cs) r (suc i) zero d l m = absurd (omega arith)
names_rise tell (c ∷ cs) r (suc i) (suc j) d l m = names_rise tell cs r.1 i j d (omega arith) (omega arith)

-- what a directory adds, and what any other branch does
module _ {A : Type 0} (tell : Place → ℕ) (first : First A) (nlink : ℕ) (old new : HeldDirectories) where
  -- if the kind is a directory, a linked directory is to be added
  pub added_directory : first.branch.now.value.kind ≡ Directory → AddsLinked tell first nlink old new
      → AddsByKind tell first nlink old new
  added_directory is_one linked = rw (ap is_directory is_one) linked

  -- if it is not, nothing is to be added
  pub added_other : (first.branch.now.value.kind ≡ Directory → ⊥) → AddsNothing first.paths nlink old new
      → AddsByKind tell first nlink old new
  added_other is_none nothing = rw (not_directory first.branch.now.value.kind is_none) nothing

-- the rows from where the old ones end, as the code cuts them
pub fresh_lines : (old new more seen : List Line) (start : ℕ) → new ≡ old ++ more → start ≡ length old → seen ≡ new
    → take (length seen - start) (drop start seen) ≡ more
fresh_lines old new more seen start e s is = take_rest seen start ∙ ap (drop start) (is ∙ e) ∙ drop_at old more start (sym s)

-- the old rows end within the existing rows
pub start_within : (old new more seen : List Line) (start : ℕ) → new ≡ old ++ more → start ≡ length old → seen ≡ new → start ≤ length seen
start_within old new more seen start e s is = let a = ap length is in let b = ap length e in omega (arith, length-append old more)
