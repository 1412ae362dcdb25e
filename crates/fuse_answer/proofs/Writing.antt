-- The bytes of a directory's rows, row by row: `IsSoFar` is what holds as they are appended, from none (`none_written`) over each that is
-- appended (`row_next`) to all (`all_rows`). Rows that take no more than a listing's room are answered, and further ones are not
-- (`answered`, `last_answered`), so these are all if no more fit (`fits_no_more`). The header's length is set last (`header_set`).
use Rattle.std.proofs.Common.{◌≡◌, ◌∙◌, sym, ap, ℕ, zero, suc, ◌+◌, ◌-◌, ◌/◌, ◌^◌, ◌<◌, ◌≤◌, List, [], ◌∷◌, ◌++◌, length, map, drop, take, get_or, Bool, true, false, cond, Option, Some, None, refl, subst, arith, append-nil, append_assoc, length-append}
use Rattle.std.specs.Prelude.{nat_le, nat_lt, ◌&&◌, slice_get, replicate, MatchOption, IfSome}
use Rattle.std.specs.List.{enumerate_from, flat_map}
use Rattle.std.specs.Option.{option_map_or}
use Rattle.std.proofs.lemmas.Bool.{le-ltb, leb-false, leb-true, lt-ltb, ltb-false, ltb-true}
use Rattle.std.proofs.lemmas.List.{drop-map, drop_at, get_or-drop, take-map, take_at, take_more}
use Rattle.std.proofs.lemmas.List.Concat.{flat_map-append}
use Rattle.fuse_wire.specs.Replies.{reply_with}
use Rattle.fuse_wire.specs.Structures.{direntplus, zeros}
use Rattle.fuse_wire.proofs.Sizes.{length-dirent, length-direntplus}
use Rattle.stack_model.specs.declared.attr.Attr.{Attr}
use Rattle.node_reader.specs.Rows.{Line}
use Rattle.stack_model.specs.Listing.{Stacked}
use Rattle.node_reader.specs.Readers.{attr_at}
use Rattle.fuse_answer.specs.declared.listing.Listing.{Listing}
use Rattle.fuse_answer.specs.Listings.{IsPaddedAt, IsLineAt, IsWhole, NumberedLine, fit_count, fits_at, line_bytes, lines_of, listed_data, name_lengths, row_bytes_at, row_size, row_sizes, size_of, type_at, until_of}
use Rattle.fuse_answer.proofs.Fitting.{fits_among, fits_few, fits_most, fits_total, length-sizes, size_named, total, total-append}
use Rattle.fuse_answer.proofs.Lines.{lines_before, lines_sized, next_line, none_before}

-- the row with an index is that of the child two places before it, and says the place after it
pub line_there : (own upper : Line) (children : List Line) (k : ℕ) (line : Line) → 2 ≤ k → k < 2 + length children
    → line ≡ get_or children (k - 2) line → slice_get (enumerate_from 1 (own ∷ upper ∷ children)) k ≡ Some (k + 1, line)
line_there own upper children zero line big small is = absurd (omega (arith, big))
line_there own upper children (suc zero) line big small is = absurd (omega (arith, big))
line_there own upper children (suc (suc k)) line big small is =
    let e : suc (suc k) - 2 ≡ k = omega arith in
    let f : 3 + k ≡ suc (suc k) + 1 = omega arith in
    let same : line ≡ get_or children k line = subst (λ i. line ≡ get_or children i line) e is in
    there 3 children k line (omega arith) same ∙ ap (λ n. Some (n, line)) f
  where
    there : (n : ℕ) (children : List Line) (k : ℕ) (line : Line) → k < length children → line ≡ get_or children k line
        → slice_get (enumerate_from n children) k ≡ Some (n + k, line)
    there n [] k line lt is = absurd (omega (arith, lt))
    there n (x ∷ xs) zero line lt is = let e : n ≡ n + 0 = omega arith in ap (λ m. Some (m, x)) e ∙ ap (λ x. Some (n + 0, x)) (sym is)
    there n (x ∷ xs) (suc k) line lt is =
        let e : n + 1 + k ≡ n + suc k = omega arith in
        there (n + 1) xs k line (omega (arith, lt)) is ∙ ap (λ m. Some (m, line)) e

length-line_bytes : (stack : Stacked) (plus : Bool) (r : NumberedLine) → length (line_bytes stack plus r) ≡ row_size plus (length r.1.name)
length-line_bytes stack false r = let e = length-dirent r.1.number r.0 (type_at stack r.1.number) r.1.name in omega arith
length-line_bytes stack true r =
    let e = length-direntplus (cond (nat_lt 2 r.0) (attr_at stack r.1.number) None) r.1.number r.0 (type_at stack r.1.number) r.1.name in
    omega arith

-- the rows that were written before an index
abbrev pub written : {A : Type 0} → Stacked → Listing A → ℕ → List ℕ
written stack l index = flat_map (line_bytes stack l.with_entries) (lines_before l index)

-- the name of a row with zeros after it, as a row is set from it
pub padded_there : {A : Type 0} (l : Listing A) (index : ℕ) (r : NumberedLine) (padded : List ℕ) → slice_get (lines_of l) index ≡ Some r
    → IsPaddedAt l index padded → padded ≡ r.1.name ++ zeros (22 - length r.1.name)
unfolding zeros
padded_there l index r padded is there =
    (subst (λ o. IfSome o (λ r. (length r.1.name ≤ 22) × (padded ≡ r.1.name ++ replicate (22 - length r.1.name) 0))) is there).1

-- such a name is short
pub padded_short : {A : Type 0} (l : Listing A) (index : ℕ) (r : NumberedLine) (padded : List ℕ) → slice_get (lines_of l) index ≡ Some r
    → IsPaddedAt l index padded → length r.1.name ≤ 22
padded_short l index r padded is there =
    (subst (λ o. IfSome o (λ r. (length r.1.name ≤ 22) × (padded ≡ r.1.name ++ replicate (22 - length r.1.name) 0))) is there).0

-- a name, padded with zeros, of the row with an index
pub padded_line : {A X : Type 0} (o : Option X) (now : X → List ℕ) (l : Listing A) (index : ℕ) (r : NumberedLine)
    → slice_get (lines_of l) index ≡ Some r
    → MatchOption o (22 < length r.1.name) (λ p. (length r.1.name ≤ 22)
    × (now p ≡ r.1.name ++ replicate (22 - length r.1.name) 0))
    → IfSome o (λ p. IsPaddedAt l index (now p))
padded_line None now l index r is given = tt
padded_line (Some p) now l index r is given =
    subst (λ o. IfSome o (λ r. (length r.1.name ≤ 22) × (now p ≡ r.1.name ++ replicate (22 - length r.1.name) 0))) (sym is) given

-- the bytes of a child's row
pub child_bytes : {A : Type 0} (stack : Stacked) (l : Listing A) (index number : ℕ) (name : List ℕ) (a : Attr)
    → IsLineAt l index number name → l.with_entries ≡ true → 2 ≤ index → attr_at stack number ≡ Some a
    → direntplus (Some a) number (index + 1) (a.mode / 2 ^ 12) name ≡ row_bytes_at stack l index
child_bytes stack l index number name a is plus big has =
    let row : NumberedLine = (index + 1, record { number = number; name = name }) in
    let child : nat_lt 2 (index + 1) ≡ true = lt-ltb 2 (index + 1) (omega arith) in
    let form = λ (b : Bool) (o : Option Attr). direntplus (cond b o None) number (index + 1)
    (option_map_or (λ (a : Attr). a.mode / 2 ^ 12) o 0) name in
    sym (ap (λ o. option_map_or (line_bytes stack l.with_entries) o []) is
    ∙ ap (λ b. line_bytes stack b row) plus
    ∙ ap (λ b. form b (attr_at stack number)) child
    ∙ ap (form true) has)

-- rows have as many bytes as their sizes say
lines_long : (stack : Stacked) (plus : Bool) (rs : List NumberedLine) → length (flat_map (line_bytes stack plus) rs)
    ≡ total (map (λ (r : NumberedLine). row_size plus (length r.1.name)) rs)
lines_long stack plus [] = refl
lines_long stack plus (r ∷ rs) =
    let sum = length-append (line_bytes stack plus r) (flat_map (line_bytes stack plus) rs) in
    let one = length-line_bytes stack plus r in
    let rest = lines_long stack plus rs in
    omega arith

both_true : (a b : Bool) → (a && b) ≡ true → (a ≡ true) × (b ≡ true)
both_true true b is = (refl, is)
both_true false b is = absurd (cc)

-- rows follow a header
pub rows_behind : (before made head headed rows items : List ℕ) → made ≡ before → headed ≡ made ++ head → items ≡ headed ++ rows
    → items ≡ (before ++ head) ++ rows
rows_behind before made head headed rows items kept put all =
    all ∙ ap (λ b. b ++ rows) (put ∙ ap (λ b. b ++ head) kept)

-- and are as long as all of them
pub reply_long : (before head rows items : List ℕ) → items ≡ (before ++ head) ++ rows → length head ≡ 16
    → length items ≡ length before + (16 + length rows)
reply_long before head rows items is long =
    let all = ap length is ∙ length-append (before ++ head) rows in
    let both = length-append before head in
    omega arith

-- if there was room for a header and this many bytes, and the header was put, there is room for these
pub room_left : (before made head headed : List ℕ) (made_room headed_room size : ℕ) → made ≡ before → headed ≡ made ++ head
    → length head ≡ 16 → length before + (16 + size) ≤ made_room → made_room ≤ headed_room → length headed + size ≤ headed_room
room_left before made head headed made_room headed_room size kept put long room grown =
    let same = ap length kept in
    let both = ap length put ∙ length-append made head in
    omega arith

-- a header is set in front of rows, over the earlier one
pub header_set : (unique : ℕ) (before head rows items new : List ℕ) (start : ℕ) → items ≡ (before ++ head) ++ rows
    → start ≡ length before → length head ≡ 16 → new ≡ take start items ++ reply_with unique (drop (start + 16) items)
    → new ≡ before ++ reply_with unique rows
header_set unique before head rows items new start is at long new_is =
    let joined : items ≡ before ++ (head ++ rows) = is ∙ append_assoc before head rows in
    let both = length-append before head in
    let front : take start items ≡ before = ap (take start) joined ∙ take_at before (head ++ rows) start (sym at) in
    let rest : drop (start + 16) items ≡ rows = ap (drop (start + 16)) is ∙ drop_at (before ++ head) rows (start + 16) (omega arith) in
    new_is ∙ ap (λ b. b ++ reply_with unique (drop (start + 16) items)) front ∙ ap (λ b. before ++ reply_with unique b) rest

module _ {A : Type 0} (stack : Stacked) (l : Listing A) where
  abbrev bytes_of : NumberedLine → List ℕ
  bytes_of r = line_bytes stack l.with_entries r

  -- the sizes of the rows from the first one that is answered on
  abbrev sizes : List ℕ
  sizes = drop l.from (row_sizes l.with_entries l.children.now)

  row_is : (index : ℕ) (r : NumberedLine) → slice_get (lines_of l) index ≡ Some r → row_bytes_at stack l index ≡ bytes_of r
  row_is index r is = ap (λ o. option_map_or bytes_of o []) is

  one_written : (index : ℕ) → l.from ≤ index → index < 2 + length l.children.now → written stack l (index + 1) ≡ written stack l index
      ++ row_bytes_at stack l index
  one_written index from there =
      let next = next_line l index from there in
      ap (flat_map bytes_of) next.before
      ∙ flat_map-append bytes_of (lines_before l index) (next.line ∷ [])
      ∙ ap (λ b. written stack l index ++ b) (append-nil (bytes_of next.line) ∙ sym (row_is index next.line next.there))

  -- what is written before an index has as many bytes as the sizes say
  written_long : (index : ℕ) → length (written stack l index) ≡ total (take (index - l.from) sizes)
  written_long index =
      let f = λ (r : NumberedLine). row_size l.with_entries (length r.1.name) in
      lines_long stack l.with_entries (lines_before l index)
      ∙ ap total (sym (take-map f (index - l.from) (drop l.from (lines_of l)))
      ∙ ap (take (index - l.from)) (sym (drop-map f l.from (lines_of l)) ∙ ap (drop l.from) (lines_sized l l.with_entries)))

  -- a row is as long as its name says
  pub row_sized : (index : ℕ) → l.from ≤ index → index < 2 + length l.children.now
      → length (row_bytes_at stack l index) ≡ row_size l.with_entries (get_or (name_lengths l.children.now) index 0)
  row_sized index from there =
      let i = index - l.from in
      let next : index + 1 - l.from ≡ i + 1 = omega arith in
      let len = length-sizes l.with_entries l.children.now l.from in
      let more = ap total (ap (λ k. take k sizes) next ∙ take_more sizes i 0 (omega arith)) in
      let sum = total-append (take i sizes) (get_or sizes i 0 ∷ []) in
      let same : l.from + i ≡ index = omega arith in
      let at = get_or-drop l.from (row_sizes l.with_entries l.children.now) i 0
      ∙ ap (λ k. get_or (row_sizes l.with_entries l.children.now) k 0) same
      ∙ size_named l.with_entries l.children.now index there in
      let a = written_long index in
      let b = written_long (index + 1) in
      let c = ap length (one_written index from there) in
      let d = length-append (written stack l index) (row_bytes_at stack l index) in
      omega arith

  -- a row with a name is written with a name of less than 2^32 bytes if it is short
  pub short_name : (index : ℕ) (r : NumberedLine) → slice_get (lines_of l) index ≡ Some r
      → length (row_bytes_at stack l index) < 2 ^ 32 → length r.1.name < 2 ^ 32
  short_name index r is short =
      let row = ap length (row_is index r is) in
      let sized = length-line_bytes stack l.with_entries r in
      omega arith

  -- only existing rows are answered
  pub until_there : IsWhole l → until_of l ≤ 2 + length l.children.now
  unfolding until_of
  until_there whole =
      let few = fits_few l.room sizes in
      let len = length-sizes l.with_entries l.children.now l.from in
      let from = whole.within in
      omega arith

  -- rows that take no more than the room are answered
  pub answered : (index : ℕ) → l.from ≤ index → index ≤ 2 + length l.children.now → length (written stack l index) ≤ l.room
      → (index ≤ until_of l) × (length (written stack l index) ≤ size_of l)
  unfolding until_of size_of
  answered index from there few =
      let long = written_long index in
      let len = length-sizes l.with_entries l.children.now l.from in
      let among = fits_among l.room sizes (index - l.from) (omega arith) (omega arith) in
      let a = among.0 in
      let b = among.1 in
      (omega arith, omega arith)

  -- and if one more takes more, no others are
  pub last_answered : (index : ℕ) → l.from ≤ index → l.room < length (written stack l (index + 1)) → until_of l ≤ index
  unfolding until_of
  last_answered index from more =
      let i = index - l.from in
      let next : index + 1 - l.from ≡ suc i = omega arith in
      let long = written_long (index + 1) ∙ ap (λ k. total (take k sizes)) next in
      let most = fits_most l.room sizes i (omega arith) in
      omega arith

  -- the rows that are answered have as many bytes as is said
  pub size_is : size_of l ≡ length (listed_data stack l)
  unfolding until_of size_of
  size_is =
      let count : l.from + fit_count l.room sizes - l.from ≡ fit_count l.room sizes = omega arith in
      fits_total l.room sizes ∙ ap (λ k. total (take k sizes)) (sym count) ∙ sym (written_long (l.from + fit_count l.room sizes))

  -- what was appended before an index
  abbrev pub IsSoFar : List ℕ → ℕ → List ℕ → Type 0
  IsSoFar before index now = now ≡ before ++ written stack l index

  pub so_far_long : (before : List ℕ) (index : ℕ) (now : List ℕ) → IsSoFar before index now
      → length now ≡ length before + length (written stack l index)
  so_far_long before index now so_far = ap length so_far ∙ length-append before (written stack l index)

  -- before the first row nothing is written
  pub none_written : (before : List ℕ) → IsSoFar before l.from before
  none_written before = sym (append-nil before) ∙ ap (λ ls. before ++ flat_map bytes_of ls) (sym (none_before l))

  -- if a row is appended after those before it, those before the next one are written
  pub row_next : (index : ℕ) (before now next : List ℕ) → l.from ≤ index → index < 2 + length l.children.now
      → IsSoFar before index now → next ≡ now ++ row_bytes_at stack l index → IsSoFar before (index + 1) next
  row_next index before now next from there so_far is =
      let w = written stack l index in
      let r = row_bytes_at stack l index in
      is ∙ ap (λ b. b ++ r) so_far ∙ append_assoc before w r ∙ ap (λ b. before ++ b) (sym (one_written index from there))

  -- at the last index all are appended
  pub all_rows : (index : ℕ) (before now : List ℕ) → index ≡ until_of l → IsSoFar before index now → now ≡ before ++ listed_data stack l
  all_rows index before now end so_far = so_far ∙ ap (λ i. before ++ written stack l i) end

  -- if the row with the index fits in the remaining room, it is among the rows that are answered
  pub record FitsNext (index left : ℕ) (before now : List ℕ) : Type 0 where
    pub there : index < 2 + length l.children.now
    pub ends : length (row_bytes_at stack l index) ≤ left
    pub within : length now + length (row_bytes_at stack l index) ≤ length before + size_of l

  pub fits_next : (index left : ℕ) (before now : List ℕ) → l.from ≤ index → IsSoFar before index now
      → length now + left ≡ length before + l.room → fits_at l index left ≡ true → FitsNext index left before now
  fits_next index left before now from so_far is fits =
      let row = row_size l.with_entries (get_or (name_lengths l.children.now) index 0) in
      let both = both_true (nat_lt index (2 + length l.children.now)) (nat_le row left) fits in
      let there = ltb-true index (2 + length l.children.now) both.0 in
      let few = leb-true row left both.1 in
      let sized = row_sized index from there in
      let len = so_far_long before index now so_far in
      let next = ap length (one_written index from there) in
      let more = length-append (written stack l index) (row_bytes_at stack l index) in
      let among = (answered (index + 1) (omega arith) (omega arith) (omega arith)).1 in
      record { there = there; ends = omega arith; within = omega arith }

  -- if none does, the rows that were written are those that are answered
  pub fits_no_more : (index left : ℕ) (before now : List ℕ) → IsWhole l → l.from ≤ index → index ≤ 2 + length l.children.now
      → IsSoFar before index now → length now + left ≡ length before + l.room → fits_at l index left ≡ false → index ≡ until_of l
  fits_no_more index left before now whole from within so_far is full = go (nat_lt index (2 + length l.children.now)) refl full
    where
      row : ℕ
      row = row_size l.with_entries (get_or (name_lengths l.children.now) index 0)

      go : (b : Bool) → nat_lt index (2 + length l.children.now) ≡ b → (b && nat_le row left) ≡ false → index ≡ until_of l
      go false past full =
          let end = ltb-false index (2 + length l.children.now) past in
          let most = until_there whole in
          let len = so_far_long before index now so_far in
          let among = (answered index from within (omega arith)).0 in
          omega arith
      go true there full =
          let lt = ltb-true index (2 + length l.children.now) there in
          let large = leb-false row left full in
          let sized = row_sized index from lt in
          let len = so_far_long before index now so_far in
          let next = ap length (one_written index from lt) in
          let more = length-append (written stack l index) (row_bytes_at stack l index) in
          let among = (answered index from within (omega arith)).0 in
          let last = last_answered index from (omega arith) in
          omega arith

  -- after the last row none fits
  pub none_left : (index : ℕ) (before now : List ℕ) → IsWhole l → l.from ≤ index → index ≡ 2 + length l.children.now
      → IsSoFar before index now → length now ≤ length before + l.room → index ≡ until_of l
  none_left index before now whole from last so_far less =
      let past : nat_lt index (2 + length l.children.now) ≡ false = le-ltb index (2 + length l.children.now) (omega arith) in
      let left = length before + l.room - length now in
      fits_no_more index left before now whole from (omega arith) so_far (omega arith)
      (ap (λ b. b && nat_le (row_size l.with_entries (get_or (name_lengths l.children.now) index 0)) left) past)
