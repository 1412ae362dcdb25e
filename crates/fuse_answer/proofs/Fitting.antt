-- Rows that fit in a room, one after another. `fits_among` and `fits_most` say how many fit, from the bytes that the first ones take.
-- `Goes` is what holds while the code passes from row to row, with a lemma for the start, for a row that fits, and for both ends. Then the
-- same sizes follow from the definitions' rows: `first_rows` says that the rows that fit are as many first ones.
use Rattle.std.proofs.Common.{◌≡◌, ◌∙◌, sym, ap, ℕ, zero, suc, ◌+◌, ◌-◌, ◌<◌, ◌≤◌, List, [], ◌∷◌, ◌++◌, length, map, drop, take, get_or, Bool, true, false, cond, refl, subst, arith}
use Rattle.std.specs.Prelude.{nat_eq, nat_le, not, ◌&&◌}
use Rattle.std.proofs.lemmas.Bool.{eq-eqb, ne_eqb, le-leb, lt-leb, leb-true, lt-ltb, ltb-true, ltb-false}
use Rattle.std.proofs.lemmas.List.{get_or-map, drop-map, drop_more, drop_all, length-drop, length-map}
use Rattle.node_reader.specs.Rows.{Line}
use Rattle.reply_model.specs.Rows.{Row, fitting, is_too_small}
use Rattle.fuse_answer.specs.declared.listing.Listing.{Listing}
use Rattle.fuse_answer.specs.Listings.{Fits, fit_count, fit_size, fits_at, is_cut_short, name_lengths, row_size, row_sizes, size_of, until_of}

-- what fits in a room, of a first piece and others
fits_one : (room n : ℕ) (sizes : List ℕ) → n ≤ room
    → (fit_count room (n ∷ sizes) ≡ 1 + fit_count (room - n) sizes) × (fit_size room (n ∷ sizes) ≡ n + fit_size (room - n) sizes)
fits_one room n sizes le = let e : nat_le n room ≡ true = le-leb n room le in (rw e refl, rw e refl)

fits_none : (room n : ℕ) (sizes : List ℕ) → room < n → (fit_count room (n ∷ sizes) ≡ 0) × (fit_size room (n ∷ sizes) ≡ 0)
fits_none room n sizes lt = let e : nat_le n room ≡ false = lt-leb n room lt in (rw e refl, rw e refl)

-- how many bytes pieces take
abbrev pub total : List ℕ → ℕ
total [] = 0
total (n ∷ sizes) = n + total sizes

-- pieces take what some and then the others do
pub total-append : (xs ys : List ℕ) → total (xs ++ ys) ≡ total xs + total ys
total-append [] ys = omega arith
total-append (x ∷ xs) ys = let e = total-append xs ys in omega arith

-- first pieces that take no more than the room are among those that fit
pub fits_among : (room : ℕ) (sizes : List ℕ) (k : ℕ) → total (take k sizes) ≤ room → k ≤ length sizes
    → (k ≤ fit_count room sizes) × (total (take k sizes) ≤ fit_size room sizes)
fits_among room [] zero le few = (omega arith, omega arith)
fits_among room [] (suc k) le few = absurd (omega (arith, few))
fits_among room (n ∷ sizes) zero le few = (omega arith, omega arith)
fits_among room (n ∷ sizes) (suc k) le few =
    let later = fits_among (room - n) sizes k (omega (arith, le)) (omega (arith, few)) in
    let count = later.0 in
    let bytes = later.1 in
    let one = fits_one room n sizes (omega (arith, le)) in
    let a = one.0 in
    let b = one.1 in
    (omega arith, omega arith)

-- if first pieces take more than the room, fewer fit
pub fits_most : (room : ℕ) (sizes : List ℕ) (k : ℕ) → room < total (take (suc k) sizes) → fit_count room sizes ≤ k
fits_most room [] k more = omega arith
fits_most room (n ∷ sizes) zero more = let e = (fits_none room n sizes (omega (arith, more))).0 in omega arith
fits_most room (n ∷ sizes) (suc k) more = go (nat_le n room) refl (fits_most (room - n) sizes k)
  where
    go : (b : Bool) → nat_le n room ≡ b → (room - n < total (take (suc k) sizes) → fit_count (room - n) sizes ≤ k)
        → cond b (1 + fit_count (room - n) sizes) 0 ≤ suc k
    go true is later = let le = leb-true n room is in let few = later (omega (arith, more)) in omega arith
    go false is later = omega arith

-- no more fit than there are
pub fits_few : (room : ℕ) (sizes : List ℕ) → fit_count room sizes ≤ length sizes
fits_few room [] = omega arith
fits_few room (n ∷ sizes) = go (nat_le n room) (fits_few (room - n) sizes)
  where
    go : (b : Bool) → fit_count (room - n) sizes ≤ length sizes → cond b (1 + fit_count (room - n) sizes) 0 ≤ length (n ∷ sizes)
    go true later = omega arith
    go false later = omega arith

-- those that fit take as many bytes as is said
pub fits_total : (room : ℕ) (sizes : List ℕ) → fit_size room sizes ≡ total (take (fit_count room sizes) sizes)
fits_total room [] = refl
fits_total room (n ∷ sizes) = go (nat_le n room) (fits_total (room - n) sizes)
  where
    go : (b : Bool) → fit_size (room - n) sizes ≡ total (take (fit_count (room - n) sizes) sizes)
        → cond b (n + fit_size (room - n) sizes) 0 ≡ total (take (cond b (1 + fit_count (room - n) sizes) 0) (n ∷ sizes))
    go true later =
        let e : suc (fit_count (room - n) sizes) ≡ 1 + fit_count (room - n) sizes = omega arith in
        ap (λ t. n + t) later ∙ ap (λ k. total (take k (n ∷ sizes))) e
    go false later = refl

-- and no more than the room
pub fits_small : (room : ℕ) (sizes : List ℕ) → fit_size room sizes ≤ room
fits_small room [] = omega arith
fits_small room (n ∷ sizes) = go (nat_le n room) refl (fits_small (room - n) sizes)
  where
    go : (b : Bool) → nat_le n room ≡ b → fit_size (room - n) sizes ≤ room - n → cond b (n + fit_size (room - n) sizes) 0 ≤ room
    go true is later = let le = leb-true n room is in omega arith
    go false is later = omega arith

length-names : (children : List Line) → length (name_lengths children) ≡ 2 + length children
length-names children = let e = length-map children (λ (line : Line). length line.name) in omega arith

-- the row with an index has a name as long as that of the child two places before it
pub child_length : (children : List Line) (k : ℕ) (line : Line) (n : ℕ) → 2 ≤ k → k < 2 + length children
    → line ≡ get_or children (k - 2) line → n ≡ length line.name → n ≡ get_or (name_lengths children) k 0
child_length children zero line n big small is size_is = absurd (omega (arith, big))
child_length children (suc zero) line n big small is size_is = absurd (omega (arith, big))
child_length children (suc (suc k)) line n big small is size_is =
    let e : suc (suc k) - 2 ≡ k = omega arith in
    let same : line ≡ get_or children k line = subst (λ i. line ≡ get_or children i line) e is in
    size_is ∙ ap (λ (line : Line). length line.name) same ∙ named children k line (omega arith)
  where
    named : (children : List Line) (k : ℕ) (line : Line) → k < length children
        → length (get_or children k line).name ≡ get_or (map (λ line. length line.name) children) k 0
    named [] k line lt = absurd (omega (arith, lt))
    named (x ∷ xs) zero line lt = refl
    named (x ∷ xs) (suc k) line lt = named xs k line (omega (arith, lt))

-- the rows from an index on, if there is one
sizes_at : (plus : Bool) (children : List Line) (k : ℕ) → k < 2 + length children
    → drop k (row_sizes plus children) ≡ row_size plus (get_or (name_lengths children) k 0) ∷ drop (k + 1) (row_sizes plus children)
sizes_at plus children k lt =
    let names = name_lengths children in
    let within : k < length names = (let e = length-names children in omega arith) in
    drop-map (row_size plus) k names
    ∙ ap (map (row_size plus)) (drop_more names k 0 within)
    ∙ ap (λ rest. row_size plus (get_or names k 0) ∷ rest) (sym (drop-map (row_size plus) (k + 1) names))

sizes_end : (plus : Bool) (children : List Line) (k : ℕ) → 2 + length children ≤ k → drop k (row_sizes plus children) ≡ []
sizes_end plus children k le =
    let e = length-names children in
    let f = length-map (name_lengths children) (row_size plus) in
    drop_all k (row_sizes plus children) (omega arith)

-- the row with an index is as long as the name with this index says
pub size_named : (plus : Bool) (children : List Line) (k : ℕ) → k < 2 + length children
    → get_or (row_sizes plus children) k 0 ≡ row_size plus (get_or (name_lengths children) k 0)
size_named plus children k lt = let e = length-names children in get_or-map (row_size plus) (name_lengths children) k 0 0 (omega arith)

-- how many rows there are from an index on
pub length-sizes : (plus : Bool) (children : List Line) (k : ℕ) → length (drop k (row_sizes plus children)) ≡ 2 + length children - k
length-sizes plus children k =
    let e = length-names children in
    let f = length-map (name_lengths children) (row_size plus) in
    let g = length-drop k (row_sizes plus children) in
    omega arith

-- the rows from an index on have been passed up to another index, with this room left
pub record Goes (plus : Bool) (children : List Line) (from size until room : ℕ) : Type 0 where
  pub within : until ≤ 2 + length children
  pub left : room ≤ size
  pub count : until + fit_count room (drop until (row_sizes plus children)) ≡ from + fit_count size (drop from (row_sizes plus children))
  pub bytes : (size - room) + fit_size room (drop until (row_sizes plus children)) ≡ fit_size size (drop from (row_sizes plus children))

-- before the first row no room is used
pub none_gone : (plus : Bool) (children : List Line) (from size : ℕ) → from ≤ 2 + length children → Goes plus children from size from size
none_gone plus children from size le = record { within = le; left = omega arith; count = refl; bytes = omega arith }

-- if the next row fits, it is passed and its bytes leave the room
pub one_gone : (plus : Bool) (children : List Line) (from size until room name bytes : ℕ) → until < 2 + length children
    → name ≡ get_or (name_lengths children) until 0 → bytes ≡ row_size plus name → bytes ≤ room
    → Goes plus children from size until room → Goes plus children from size (until + 1) (room - bytes)
one_gone plus children from size until room name bytes lt is size_is le g =
    let n = row_size plus (get_or (name_lengths children) until 0) in
    let same : bytes ≡ n = size_is ∙ ap (row_size plus) is in
    let at = sizes_at plus children until lt in
    let rest = drop (until + 1) (row_sizes plus children) in
    let fits : n ≤ room = omega arith in
    let one = fits_one room n rest fits in
    let count = ap (fit_count room) at ∙ one.0 ∙ ap (λ b. 1 + fit_count (room - b) rest) (sym same) in
    let size_of = ap (fit_size room) at ∙ one.1 ∙ ap (λ b. b + fit_size (room - b) rest) (sym same) in
    record {
      within = omega arith;
      left = (let l = g.left in omega arith);
      count = (let c = g.count in omega arith);
      bytes = (let l = g.left in let b = g.bytes in omega arith);
    }

-- if the next row does not fit, the rows passed are those that fit
pub no_room : (plus : Bool) (children : List Line) (from size until room name : ℕ) → until < 2 + length children
    → name ≡ get_or (name_lengths children) until 0 → room < row_size plus name
    → Goes plus children from size until room → Fits plus children from size until (size - room)
no_room plus children from size until room name lt is full g =
    let n = row_size plus (get_or (name_lengths children) until 0) in
    let same : row_size plus name ≡ n = ap (row_size plus) is in
    let at = sizes_at plus children until lt in
    let none = fits_none room n (drop (until + 1) (row_sizes plus children)) (omega arith) in
    let count = ap (fit_count room) at ∙ none.0 in
    let size_of = ap (fit_size room) at ∙ none.1 in
    record {
      until_is = (let c = g.count in omega arith);
      bytes_are = (let b = g.bytes in omega arith);
      within = g.within;
      small = omega arith;
    }

-- if no row is left, the rows passed are those that fit
pub all_gone : (plus : Bool) (children : List Line) (from size until room : ℕ) → 2 + length children ≤ until
    → Goes plus children from size until room → Fits plus children from size until (size - room)
all_gone plus children from size until room le g =
    let at = sizes_end plus children until le in
    let count = ap (fit_count room) at in
    let size_of = ap (fit_size room) at in
    record {
      until_is = (let c = g.count in omega arith);
      bytes_are = (let b = g.bytes in omega arith);
      within = g.within;
      small = omega arith;
    }

module _ {A : Type 0} (l : Listing A) where
  -- the rows that were found to fit are those that are answered
  pub until_found : (until bytes : ℕ) → Fits l.with_entries l.children.now l.from l.room until bytes → until ≡ until_of l
  unfolding until_of
  until_found until bytes fits = fits.until_is

  -- and take as many bytes
  pub size_found : (until bytes : ℕ) → Fits l.with_entries l.children.now l.from l.room until bytes → bytes ≡ size_of l
  unfolding size_of
  size_found until bytes fits = fits.bytes_are

  -- and no more than the room
  pub size_few : size_of l ≤ l.room
  unfolding size_of
  size_few = fits_small l.room (drop l.from (row_sizes l.with_entries l.children.now))

  -- if there is a row, a listing is cut short exactly if it does not fit
  pub cut_found : l.from < 2 + length l.children.now → not (fits_at l l.from l.room) ≡ is_cut_short l
  unfolding until_of
  cut_found there =
      let n = row_size l.with_entries (get_or (name_lengths l.children.now) l.from 0) in
      let rest = drop (l.from + 1) (row_sizes l.with_entries l.children.now) in
      rw (lt-ltb l.from (2 + length l.children.now) there, sizes_at l.with_entries l.children.now l.from there)
      (go n rest (nat_le n l.room))
    where
      go : (n : ℕ) (rest : List ℕ) (b : Bool) → not b ≡ (nat_eq (l.from + cond b (1 + fit_count (l.room - n) rest) 0) l.from && true)
      go n rest true = let e : nat_eq (l.from + (1 + fit_count (l.room - n) rest)) l.from ≡ false =
          ne_eqb (l.from + (1 + fit_count (l.room - n) rest)) l.from (λ same. omega arith) in rw e refl
      go n rest false = let e : nat_eq (l.from + 0) l.from ≡ true = eq-eqb (l.from + 0) l.from (omega arith) in rw e refl

module _ (form : Row → List ℕ) where
  -- how many bytes each of the rows takes
  abbrev pub sizes_of : List Row → List ℕ
  sizes_of rows = map (λ r. length (form r)) rows

  -- as many of the first rows as the count of fitting sizes says are the rows that fit
  pub first_rows : (room : ℕ) (rows : List Row) → take (fit_count room (sizes_of rows)) rows ≡ fitting form room rows
  first_rows room [] = refl
  first_rows room (r ∷ rows) = go (nat_le (length (form r)) room) (first_rows (room - length (form r)) rows)
    where
      one_more : (n : ℕ) → take (1 + n) (r ∷ rows) ≡ r ∷ take n rows
      one_more n = let e : 1 + n ≡ suc n = omega arith in ap (λ k. take k (r ∷ rows)) e

      go : (b : Bool) → take (fit_count (room - length (form r)) (sizes_of rows)) rows ≡ fitting form (room - length (form r)) rows
          → take (cond b (1 + fit_count (room - length (form r)) (sizes_of rows)) 0) (r ∷ rows)
          ≡ cond b (r ∷ fitting form (room - length (form r)) rows) []
      go true e = one_more _ ∙ ap (λ t. r ∷ t) e
      go false e = refl

  -- if a first row does not fit, there is one and none is counted
  pub too_small : (room : ℕ) (rows : List Row) → is_too_small form room rows ≡ true → (fit_count room (sizes_of rows) ≡ 0)
      × (0 < length rows)
  too_small room [] is = absurd (cc)
  too_small room (r ∷ rows) is =
      let lt : room < length (form r) = ltb-true room (length (form r)) is in
      ((fits_none room (length (form r)) (sizes_of rows) lt).0, omega arith)

  -- if there is a first row and it fits, one at least is counted
  pub not_too_small : (room : ℕ) (rows : List Row) → is_too_small form room rows ≡ false → 0 < length rows
      → 0 < fit_count room (sizes_of rows)
  not_too_small room [] is some = absurd (omega arith)
  not_too_small room (r ∷ rows) is some =
      let le : length (form r) ≤ room = ltb-false room (length (form r)) is in
      let e = (fits_one room (length (form r)) (sizes_of rows) le).0 in
      omega arith
