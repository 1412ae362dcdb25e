-- The rows of a listing before an index, from its first on: none at first (`none_before`), one more
-- before the next index (`next_line`), and no more than before a later one (`before_later`). Their
-- sizes are those of a directory's rows (`lines_sized`).
use Rattle.std.proofs.Common.{◌≡◌, ◌∙◌, sym, ap, ℕ, ◌+◌, ◌-◌, ◌<◌, ◌≤◌, List, [], ◌∷◌, ◌++◌, length, map, drop, take, get_or, Bool, Some, refl, arith}
use Rattle.std.specs.Prelude.{slice_get}
use Rattle.std.specs.List.{enumerate_from}
use Rattle.std.proofs.lemmas.List.{get_or-drop, length-drop, take_more, take-append-drop, take-take}
use Rattle.std.proofs.lemmas.List.FromFn.{length-enumerate_from}
use Rattle.std.proofs.lemmas.Option.{slice_get-get_or}
use Rattle.node_reader.specs.Rows.{Line}
use Rattle.fuse_answer.specs.declared.listing.Listing.{Listing}
use Rattle.fuse_answer.specs.Listings.{NumberedLine, lines_of, row_size, row_sizes}

nothing : NumberedLine
nothing = (0, record { number = 0; name = [] })

-- the sizes of rows, from their names
names_of : (plus : Bool) (k : ℕ) (lines : List Line) → map (λ (r : NumberedLine). row_size plus (length r.1.name)) (enumerate_from k lines)
    ≡ map (row_size plus) (map (λ (line : Line). length line.name) lines)
names_of plus k [] = refl
names_of plus k (line ∷ lines) = ap (λ t. row_size plus (length line.name) ∷ t) (names_of plus (k + 1) lines)

module _ {A : Type 0} (l : Listing A) where
  -- all rows of a listing are as long as their names say
  pub lines_sized : (plus : Bool) → map (λ (r : NumberedLine). row_size plus (length r.1.name)) (lines_of l) ≡ row_sizes plus l.children.now
  lines_sized plus = ap (λ t. row_size plus 1 ∷ row_size plus 2 ∷ t) (names_of plus 3 l.children.now)

  -- the rows before an index
  abbrev pub lines_before : ℕ → List NumberedLine
  lines_before index = take (index - l.from) (drop l.from (lines_of l))

  -- before the first index is none
  pub none_before : lines_before l.from ≡ []
  none_before = let e : l.from - l.from ≡ 0 = omega arith in ap (λ n. take n (drop l.from (lines_of l))) e

  -- the row with an index, which the rows before the next one end with
  pub record IsNext (index : ℕ) : Type 0 where
    pub line : NumberedLine
    pub there : slice_get (lines_of l) index ≡ Some line
    pub before : lines_before (index + 1) ≡ lines_before index ++ line ∷ []

  -- each index of a row has one
  pub next_line : (index : ℕ) → l.from ≤ index → index < 2 + length l.children.now → IsNext index
  next_line index from until =
      let len = length-enumerate_from 3 l.children.now in
      let rest = length-drop l.from (lines_of l) in
      let i = index - l.from in
      let next : index + 1 - l.from ≡ i + 1 = omega arith in
      let inside : i < length (drop l.from (lines_of l)) = omega arith in
      let same : l.from + i ≡ index = omega arith in
      let read : get_or (drop l.from (lines_of l)) i nothing ≡ get_or (lines_of l) index nothing =
      get_or-drop l.from (lines_of l) i nothing ∙ ap (λ k. get_or (lines_of l) k nothing) same in
      record {
        line = get_or (lines_of l) index nothing;
        there = slice_get-get_or (lines_of l) index nothing (omega arith);
        before = ap (λ n. take n (drop l.from (lines_of l))) next ∙ take_more (drop l.from (lines_of l)) i nothing inside
            ∙ ap (λ r. lines_before index ++ r ∷ []) read;
      }

  -- the rows before an index begin those before a later one
  pub before_later : (index later : ℕ) → index ≤ later → (rest : List NumberedLine) × (lines_before later ≡ lines_before index ++ rest)
  before_later index later le =
      let rows = drop l.from (lines_of l) in
      let k = index - l.from in
      let n = later - l.from in
      let less : k ≤ n = omega arith in
      (drop k (take n rows), sym (take-append-drop k (take n rows)) ∙ ap (λ t. t ++ drop k (take n rows)) (take-take k n rows less))
