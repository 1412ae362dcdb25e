-- What is kept about directories, as nodes are made. A directory that is added last has the rows and the parent of its place (is_made),
-- with a key for each row (level_made). What is kept about the directories of nodes stays as more are added (still_node).
use Rattle.std.proofs.Common.{◌≡◌, ◌∙◌, sym, ap, subst, ℕ, ◌-◌, ◌≤◌, List, [], ◌∷◌, ◌++◌, length, take, drop, map, refl, arith, length-append, true}
use Rattle.std.specs.Prelude.{slice_range}
use Rattle.std.proofs.lemmas.List.{drop-append-le, drop_at, length-drop, length-map, take-append-le, take_all}
use Rattle.stack_model.specs.Numbers.{Place as ModelPlace, number, parent}
use Rattle.stack_model.specs.Attributes.{is_directory_at}
use Rattle.layer_paths.specs.declared.entries.Place.{Place}
use Rattle.layer_paths.specs.declared.entries.Entry.{Entry}
use Rattle.layer_paths.specs.Rows.{Subtree}
use Rattle.layer_names.specs.Keys.{key}
use Rattle.layer_names.specs.Keyed.{AreKeyed}
use Rattle.node_reader.specs.declared.node.Node.{Node}
use Rattle.node_reader.specs.declared.directory.Directory.{Directory}
use Rattle.stack_model.specs.Listing.{Stacked}
use Rattle.node_reader.specs.Rows.{Line, names}
use Rattle.node_reader.specs.Directories.{HeldDirectories}
use Rattle.node_reader.specs.Held.{IsHeldDirectory, IsNode}
use Rattle.node_table.specs.Building.{line_in, IsMade}
use Rattle.node_table.specs.Agreement.{AgreeBelow}
use Rattle.node_table.proofs.Lists.{get_front}

-- existing rows stay as more are added
range_stays : {X : Type 0} (xs ys : List X) (start end : ℕ) → start ≤ end → end ≤ length xs
    → slice_range (xs ++ ys) start end ≡ slice_range xs start end
range_stays xs ys start end rises within = ap (take (end - start)) (drop-append-le start xs ys (omega arith))
    ∙ take-append-le (end - start) (drop start xs) ys (omega (arith, length-drop start xs))

-- and those that were added last are a range
range_last : {X : Type 0} (xs ys : List X) → slice_range (xs ++ ys) (length xs) (length (xs ++ ys)) ≡ ys
range_last xs ys = ap (take (length (xs ++ ys) - length xs)) (drop_at xs ys (length xs) refl)
    ∙ take_all (length (xs ++ ys) - length xs) ys (omega (arith, length-append xs ys))

-- the same keys are those of the same rows
keyed_by : (shared : ℕ) (keys keys' : List ℕ) (rows rows' : List Line) → keys ≡ keys' → rows ≡ rows' → AreKeyed shared keys (names rows)
    → AreKeyed shared keys' (names rows')
keyed_by shared keys keys' rows rows' same_keys same_rows keyed = subst (λ (x : List ℕ). AreKeyed shared x (names rows')) same_keys
    (subst (λ (x : List Line). AreKeyed shared keys (names x)) same_rows keyed)

-- directories, rows and their keys, with more after them
abbrev pub with_more : HeldDirectories → Directory → List Line → List ℕ → HeldDirectories
with_more held d rows keys = record { all = held.all ++ d ∷ []; rows = held.rows ++ rows; keys = held.keys ++ keys }

-- a directory of a place stays one as rows and keys are added
still_directory : (stack : Stacked) (held : HeldDirectories) (new : Directory) (rows : List Line) (keys : List ℕ) (d : Directory)
    (p : ModelPlace) → length held.keys ≡ length held.rows → IsHeldDirectory stack held d p
    → IsHeldDirectory stack (with_more held new rows keys) d p
still_directory stack held new rows keys d p level is =
    let same_rows = range_stays held.rows rows d.rows_start d.rows_end is.start is.end in
    let same_keys = range_stays held.keys keys d.rows_start d.rows_end is.start (let end = is.end in omega arith) in
    record {
      parent_is = is.parent_is;
      start = is.start;
      end = (let end = is.end in omega (arith, length-append held.rows rows));
      rows_are = same_rows ∙ is.rows_are;
      keyed = keyed_by d.shared _ _ _ _ (sym same_keys) (sym same_rows) is.keyed;
    }

-- a node of a place stays one as a directory, its rows and their keys are added
pub still_node : (stack : Stacked) (held : HeldDirectories) (d : Directory) (rows : List Line) (keys : List ℕ) (node : Node)
    (p : ModelPlace) → length held.keys ≡ length held.rows → IsNode stack held node p → IsNode stack (with_more held d rows keys) node p
still_node stack held d rows keys node p level is = record {
  place = is.place;
  holds = is.holds;
  kind = is.kind;
  size = is.size;
  mode_is = is.mode_is;
  nlink_is = is.nlink_is;
  rdev_is = is.rdev_is;
  directory_is = λ is_one. let its = is.directory_is is_one in record {
    directory = its.directory;
    is = get_front held.all (d ∷ []) node.directory its.directory its.is;
    holds = still_directory stack held d rows keys its.directory p level its.holds;
  };
}

-- a directory that was added last is the place's
module _ (stack : Stacked) (tell : Place → ℕ) (above : ℕ) (old new : HeldDirectories) (level : length old.keys ≡ length old.rows)
    (cs : List (Subtree Entry)) (d : Directory) (made : IsMade tell above cs old new d) where
  -- a key was added for each row
  pub level_made : length new.keys ≡ length new.rows
  level_made =
      let lines = map (line_in tell) cs in
      let all_keys = ap length made.keys_are.is in
      let its_keys = ap length made.keys_are.keyed.made in
      let its_names = length-map (names lines) (λ (name : List ℕ). key 8 (drop d.shared name)) in
      let its_lines = length-map lines (λ (line : Line). line.name) in
      let all_rows = ap length made.rows_are in
      omega (arith, length-append old.keys made.keys_are.keys, length-append old.rows lines)

  range_is : slice_range new.rows d.rows_start d.rows_end ≡ map (line_in tell) cs
  range_is =
      ap (λ n. slice_range new.rows n d.rows_end) made.start_is ∙ ap (slice_range new.rows (length old.rows)) made.end_is
      ∙ ap (λ xs. slice_range xs (length old.rows) (length xs)) made.rows_are
      ∙ range_last old.rows (map (line_in tell) cs)

  keys_range_is : slice_range new.keys d.rows_start d.rows_end ≡ made.keys_are.keys
  keys_range_is =
      ap (λ n. slice_range new.keys n d.rows_end) (made.start_is ∙ sym level)
      ∙ ap (slice_range new.keys (length old.keys)) (made.end_is ∙ sym level_made)
      ∙ ap (λ xs. slice_range xs (length old.keys) (length xs)) made.keys_are.is
      ∙ range_last old.keys made.keys_are.keys

  -- a directory that was made of a place's branch holds the rows and the parent of the place
  pub is_made : (p : ModelPlace) → is_directory_at stack.layers p ≡ true → above ≡ number stack.entries (parent stack.entries p)
      → AgreeBelow stack tell p cs → IsHeldDirectory stack new d p
  is_made p is_one parent_is below = record {
    parent_is = made.parent_is ∙ parent_is;
    start = (let start = made.start_is in let end = made.end_is in let rows = ap length made.rows_are in
        omega (arith, length-append old.rows (map (line_in tell) cs)));
    end = (let end = made.end_is in omega arith);
    rows_are = range_is ∙ below.rows_are ∙ sym (rw is_one refl);
    keyed = keyed_by d.shared _ _ _ _ (sym keys_range_is) (sym range_is) made.keys_are.keyed;
  }
