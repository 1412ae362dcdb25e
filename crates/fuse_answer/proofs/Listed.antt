-- The rows that answer READDIR and READDIRPLUS, from the rows of a table. These are the definitions' rows with numbers instead of places,
-- so a listing's bytes and moves are theirs (`data_same`, `moves_same`), and it is cut short as they say (`cut_same`).
use Rattle.std.proofs.Common.{◌≡◌, ◌∙◌, sym, ap, ℕ, zero, suc, ◌+◌, ◌-◌, ◌/◌, ◌^◌, List, [], ◌∷◌, ◌++◌, length, map, drop, take, min, Bool, true, false, cond, Some, None, pos, refl, arith}
use Rattle.std.specs.Prelude.{nat_le, nat_lt, nat_eq, filter, ◌&&◌}
use Rattle.std.specs.List.{enumerate_from, flat_map, AllByRecursion}
use Rattle.std.specs.Option.{option_map, option_map_or}
use Rattle.std.proofs.lemmas.Bool.{ltb-true, lt-ltb, eq-eqb, ne_eqb}
use Rattle.std.proofs.lemmas.List.{drop-map, take-map, drop_min, length-drop, length-map}
use Rattle.std.proofs.lemmas.List.FromFn.{length-enumerate_from}
use Rattle.fuse_wire.specs.Structures.{dirent, direntplus}
use Rattle.fuse_wire.proofs.Sizes.{length-dirent, length-direntplus}
use Rattle.stack_model.specs.Attributes.{is_directory_at, mode_at, attr_of}
use Rattle.stack_model.specs.Numbers.{Place, Child, number, node_of, parent, children}
use Rattle.stack_model.specs.declared.attr.Attr.{Attr}
use Rattle.node_reader.specs.Rows.{Line}
use Rattle.stack_model.specs.Listing.{Entry, Stacked}
use Rattle.node_reader.specs.Readers.{parent_at, rows_at}
use Rattle.reply_model.specs.declared.moves.Move.{Move}
use Rattle.reply_model.specs.Services.{give}
use Rattle.reply_model.specs.Rows.{Row, fitting, is_child, is_too_small, rows, rows_after, dirent_of, direntplus_of}
use Rattle.fuse_answer.specs.declared.listing.Listing.{Listing}
use Rattle.fuse_answer.specs.Listings.{AreListed, NumberedLine, fit_count, is_child_line, is_cut_short, line_bytes, lines_answered, lines_of, listed_data, row_size, row_sizes, until_of}
use Rattle.fuse_answer.proofs.Numbered.{IsNumbered, number_is, numbered_children, numbered_node, numbered_parent}
use Rattle.fuse_answer.proofs.Fitting.{first_rows, not_too_small, sizes_of, too_small}
use Rattle.fuse_answer.proofs.Lines.{lines_sized}

-- a row as a table gives it
abbrev child_line : List Entry → Child → Line
child_line entries c = record { number = number entries c.place; name = c.name }

-- a row of the definitions as a table gives it
abbrev pub line_of : List Entry → Row → NumberedLine
line_of entries r = (r.0, child_line entries r.1)

lines_numbered : (entries : List Entry) (k : ℕ) (cs : List Child)
    → enumerate_from k (map (child_line entries) cs) ≡ map (line_of entries) (enumerate_from k cs)
lines_numbered entries k [] = refl
lines_numbered entries k (c ∷ cs) = ap (λ t. line_of entries (k, c) ∷ t) (lines_numbered entries (k + 1) cs)

-- rows whose places have numbers
abbrev pub AreNumbered : List Entry → List Row → Type 0
AreNumbered entries rs = AllByRecursion (λ r. IsNumbered entries r.1.place) rs

numbered_from : (entries : List Entry) (k : ℕ) (cs : List Child) → AllByRecursion (λ c. IsNumbered entries c.place) cs
    → AreNumbered entries (enumerate_from k cs)
numbered_from entries k [] all = tt
numbered_from entries k (c ∷ cs) all = (all.0, numbered_from entries (k + 1) cs all.1)

numbered_rest : (entries : List Entry) (k : ℕ) (rs : List Row) → AreNumbered entries rs → AreNumbered entries (drop k rs)
numbered_rest entries zero rs all = all
numbered_rest entries (suc k) [] all = tt
numbered_rest entries (suc k) (r ∷ rs) all = numbered_rest entries k rs all.1

numbered_fitting : (entries : List Entry) (form : Row → List ℕ) (room : ℕ) (rs : List Row) → AreNumbered entries rs
    → AreNumbered entries (fitting form room rs)
numbered_fitting entries form room [] all = tt
numbered_fitting entries form room (r ∷ rs) all =
    go (nat_le (length (form r)) room) (numbered_fitting entries form (room - length (form r)) rs all.1)
  where
    go : (b : Bool) → AreNumbered entries (fitting form (room - length (form r)) rs)
        → AreNumbered entries (cond b (r ∷ fitting form (room - length (form r)) rs) [])
    go true later = (all.0, later)
    go false later = tt

numbered_rows : (entries : List Entry) (n : ℕ) (p : Place) (offset : ℕ) → node_of entries n ≡ Some p
    → AreNumbered entries (rows_after entries p offset)
unfolding rows_after rows
numbered_rows entries n p offset is =
    let all : AllByRecursion (λ c. IsNumbered entries c.place) (rows entries p) =
    (numbered_node entries n p is, (numbered_parent entries n p is, numbered_children entries p)) in
    numbered_rest entries offset (enumerate_from 1 (rows entries p)) (numbered_from entries 1 (rows entries p) all)

-- what the rows give
given_rows : (stack : Stacked) (rs : List Row)
    → map (λ (r : NumberedLine). let m : Move = record { node = r.1.number; amount = pos 1 } in
    m) (filter is_child_line (map (line_of stack.entries) rs))
    ≡ map (λ r. give stack r.1.place) (filter is_child rs)
given_rows stack [] = refl
given_rows stack (r ∷ rs) = go (nat_lt 2 r.0) (given_rows stack rs)
  where
    go : (b : Bool)
        → map (λ (r : NumberedLine). let m : Move = record { node = r.1.number; amount = pos 1 } in
        m) (filter is_child_line (map (line_of stack.entries) rs))
        ≡ map (λ r. give stack r.1.place) (filter is_child rs)
        → map (λ (r : NumberedLine). let m : Move = record { node = r.1.number; amount = pos 1 } in
        m) (cond b (line_of stack.entries r ∷ filter is_child_line (map (line_of stack.entries) rs))
        (filter is_child_line (map (line_of stack.entries) rs)))
        ≡ map (λ r. give stack r.1.place) (cond b (r ∷ filter is_child rs) (filter is_child rs))
    go true e = ap (λ t. give stack r.1.place ∷ t) e
    go false e = e

-- a form of the definitions' rows has the length and, if places have numbers, the bytes of a
-- table's
pub record IsForm (stack : Stacked) (plus : Bool) (form : Row → List ℕ) : Type 0 where
  pub sized : (r : Row) → length (form r) ≡ row_size plus (length r.1.name)
  pub written : (r : Row) → IsNumbered stack.entries r.1.place → line_bytes stack plus (line_of stack.entries r) ≡ form r

-- the rows of READDIR are such a form
pub plain : (stack : Stacked) → IsForm stack false (dirent_of stack)
unfolding dirent_of
plain stack = record {
  sized = λ r. (let e = length-dirent (number stack.entries r.1.place) r.0 (mode_at stack r.1.place / 2 ^ 12) r.1.name in omega arith);
  written = λ r numbered. ap (λ o. dirent (number stack.entries r.1.place) r.0 (option_map_or (λ (a : Attr). a.mode / 2 ^ 12)
      (option_map (attr_of stack) o) 0) r.1.name) numbered;
}

-- the rows of READDIRPLUS are such a form
pub with_entries : (stack : Stacked) → IsForm stack true (direntplus_of stack)
unfolding direntplus_of
with_entries stack = record {
  sized = λ r. (let e = length-direntplus (cond (nat_lt 2 r.0) (Some (attr_of stack r.1.place)) None)
      (number stack.entries r.1.place) r.0 (mode_at stack r.1.place / 2 ^ 12) r.1.name in omega arith);
  written = λ r numbered. ap (λ o. direntplus (cond (nat_lt 2 r.0) (option_map (attr_of stack) o)
      None) (number stack.entries r.1.place) r.0 (option_map_or (λ (a : Attr). a.mode / 2 ^ 12)
      (option_map (attr_of stack) o) 0) r.1.name) numbered;
}

module _ {A : Type 0} (stack : Stacked) (plus : Bool) (form : Row → List ℕ) (good : IsForm stack plus form) (n offset size : ℕ) (p : Place)
    (is : node_of stack.entries n ≡ Some p) (directory : is_directory_at stack.layers p ≡ true)
    (l : Listing A) (listed : AreListed stack n offset size plus l) where
  abbrev rest : List Row
  rest = rows_after stack.entries p offset

  parent_same : l.parent ≡ number stack.entries (parent stack.entries p)
  parent_same =
      let e : parent_at stack n ≡ Some (number stack.entries (parent stack.entries p)) = rw (is, directory) refl in
      let f = listed.parent_is in
      cc

  children_same : l.children.now ≡ map (child_line stack.entries) (children stack.entries p)
  children_same =
      let e : rows_at stack n ≡ map (child_line stack.entries) (children stack.entries p) = rw (is, directory) refl in
      listed.children_are ∙ e

  lines_same : lines_of l ≡ map (line_of stack.entries) (enumerate_from 1 (rows stack.entries p))
  unfolding rows
  lines_same =
      let number_same : l.number ≡ number stack.entries p = listed.node_is ∙ sym (number_is stack.entries n p is) in
      rw (number_same, parent_same, children_same) (lines_numbered stack.entries 1 (rows stack.entries p))

  length-lines : length (lines_of l) ≡ 2 + length l.children.now
  length-lines = let e = length-enumerate_from 3 l.children.now in omega arith

  lines_rest : drop l.from (lines_of l) ≡ map (line_of stack.entries) rest
  unfolding rows_after
  lines_rest =
      ap (λ k. drop k (lines_of l)) (listed.from_is ∙ ap (min offset) (sym length-lines))
      ∙ drop_min offset (lines_of l)
      ∙ ap (drop offset) lines_same
      ∙ drop-map (line_of stack.entries) offset (enumerate_from 1 (rows stack.entries p))

  length-rest : length rest ≡ 2 + length l.children.now - l.from
  length-rest =
      let a = ap length lines_rest in
      let b = length-drop l.from (lines_of l) in
      let c = length-map rest (line_of stack.entries) in
      let d = length-lines in
      omega arith

  sizes_same : (rs : List Row) → map (λ (r : NumberedLine). row_size plus (length r.1.name)) (map (line_of stack.entries) rs)
      ≡ sizes_of form rs
  sizes_same [] = refl
  sizes_same (r ∷ rs) =
      ap (λ k. k ∷ map (λ (r : NumberedLine). row_size plus (length r.1.name)) (map (line_of stack.entries) rs)) (sym (good.sized r))
      ∙ ap (λ t. length (form r) ∷ t) (sizes_same rs)

  sizes_rest : drop l.from (row_sizes plus l.children.now) ≡ sizes_of form rest
  sizes_rest =
      ap (drop l.from) (sym (lines_sized l plus))
      ∙ drop-map (λ (r : NumberedLine). row_size plus (length r.1.name)) l.from (lines_of l)
      ∙ ap (map (λ (r : NumberedLine). row_size plus (length r.1.name))) lines_rest
      ∙ sizes_same rest

  count_same : until_of l ≡ l.from + fit_count size (sizes_of form rest)
  unfolding until_of
  count_same =
      ap (λ b. l.from + fit_count l.room (drop l.from (row_sizes b l.children.now))) listed.entries_are
      ∙ ap (λ n. l.from + fit_count n (drop l.from (row_sizes plus l.children.now))) listed.room_is
      ∙ ap (λ s. l.from + fit_count size s) sizes_rest

  answered_same : lines_answered l ≡ map (line_of stack.entries) (fitting form size rest)
  answered_same =
      let count : until_of l - l.from ≡ fit_count size (sizes_of form rest) = (let e = count_same in omega arith) in
      ap (λ k. take k (drop l.from (lines_of l))) count
      ∙ ap (take (fit_count size (sizes_of form rest))) lines_rest
      ∙ take-map (line_of stack.entries) (fit_count size (sizes_of form rest)) rest
      ∙ ap (map (line_of stack.entries)) (first_rows form size rest)

  bytes_same : (rs : List Row) → AreNumbered stack.entries rs → flat_map (line_bytes stack plus) (map (line_of stack.entries) rs)
      ≡ flat_map form rs
  bytes_same [] all = refl
  bytes_same (r ∷ rs) all =
      ap (λ b. b ++ flat_map (line_bytes stack plus) (map (line_of stack.entries) rs)) (good.written r all.0)
      ∙ ap (λ t. form r ++ t) (bytes_same rs all.1)

  -- a listing's bytes are those of the rows that fit
  pub data_same : listed_data stack l ≡ flat_map form (fitting form size rest)
  data_same =
      ap (λ b. flat_map (line_bytes stack b) (lines_answered l)) listed.entries_are
      ∙ ap (flat_map (line_bytes stack plus)) answered_same
      ∙ bytes_same (fitting form size rest) (numbered_fitting stack.entries form size rest (numbered_rows stack.entries n p offset is))

  -- a listing's rows give what the rows that fit give
  pub moves_same : map (λ (r : NumberedLine). let m : Move = record { node = r.1.number; amount = pos 1 } in
      m) (filter is_child_line (lines_answered l))
      ≡ map (λ r. give stack r.1.place) (filter is_child (fitting form size rest))
  moves_same =
      ap (λ t. map (λ (r : NumberedLine). let m : Move = record { node = r.1.number; amount = pos 1 } in m) (filter is_child_line t))
      answered_same
      ∙ given_rows stack (fitting form size rest)

  -- a listing is cut short exactly if its first row does not fit
  pub cut_same : is_cut_short l ≡ is_too_small form size rest
  cut_same = go (is_too_small form size rest) refl
    where
      go : (b : Bool) → is_too_small form size rest ≡ b → is_cut_short l ≡ b
      go true short =
          let t = too_small form size rest short in
          let len = length-rest in
          let count = count_same in
          let e : nat_eq (until_of l) l.from ≡ true = eq-eqb (until_of l) l.from (omega arith) in
          let f : nat_lt l.from (2 + length l.children.now) ≡ true = lt-ltb l.from (2 + length l.children.now) (omega arith) in
          rw (e, f) refl
      go false long = some (nat_lt l.from (2 + length l.children.now)) refl
        where
          none : (b : Bool) → (b && false) ≡ false
          none true = refl
          none false = refl

          some : (b : Bool) → nat_lt l.from (2 + length l.children.now) ≡ b → (nat_eq (until_of l) l.from && b) ≡ false
          some false past = none (nat_eq (until_of l) l.from)
          some true there =
              let lt = ltb-true l.from (2 + length l.children.now) there in
              let len = length-rest in
              let count = count_same in
              let more = not_too_small form size rest long (omega arith) in
              let e : nat_eq (until_of l) l.from ≡ false = ne_eqb (until_of l) l.from (λ same. omega arith) in
              rw e refl
