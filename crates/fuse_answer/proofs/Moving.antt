-- Balances, after one row and another (`AddsGiven`: none, an entry, rows and then others, all), and after one forgotten item and another
-- (`IsTaken`). Then the same for moves that are appended to a list (`given`, `AreTaken`).
use Rattle.std.proofs.Common.{◌≡◌, ◌∙◌, sym, ap, ℕ, ◌+◌, ◌-◌, ◌*◌, ◌^◌, ◌<◌, ◌≤◌, ℤ, pos, neg_ℤ, List, [], ◌∷◌, ◌++◌, length, map, Bool, true, false, cond, Option, Some, None, Err, Vec, vec_len, vec_capacity, refl, subst, arith, append-nil, append_assoc, length-append}
use Rattle.std.specs.Prelude.{nat_lt, filter}
use Rattle.std.specs.List.{cons_option}
use Rattle.std.specs.Option.{option_map, option_map_or}
use Rattle.std.proofs.lemmas.Int.{ints}
use Rattle.fuse_wire.specs.declared.forget.Forget.{Forget}
use Rattle.fuse_wire.specs.declared.limits.TheConstants.{MAX_FORGETS}
use Rattle.stack_model.specs.Numbers.{Place, node_of}
use Rattle.stack_model.specs.Listing.{Stacked}
use Rattle.reply_model.specs.declared.moves.Move.{Move}
use Rattle.reply_model.specs.Moves.{take_back}
use Rattle.reply_model.specs.Balances.{AreWithin, IsMoved, weight}
use Rattle.reply_model.proofs.Sums.{moved_on, none_moved, within_less, within_moved}
use Rattle.fuse_answer.specs.declared.listing.Listing.{Listing}
use Rattle.fuse_answer.specs.Answers.{taken_back}
use Rattle.fuse_answer.specs.Puts.{Grows}
use Rattle.fuse_answer.specs.Listings.{NumberedLine, is_child_line, lines_answered, lines_given, listed_moves, moves_before, row_given, until_of}
use Rattle.fuse_answer.specs.Adding.{AddsGiven}
use Rattle.fuse_answer.proofs.Lines.{IsNext, before_later, lines_before, next_line, none_before}

given_on : (xs ys : List NumberedLine) → lines_given (xs ++ ys) ≡ lines_given xs ++ lines_given ys
given_on [] ys = refl
given_on (x ∷ xs) ys = go (nat_lt 2 x.0) (given_on xs ys)
  where
    go : (b : Bool) → lines_given (xs ++ ys) ≡ lines_given xs ++ lines_given ys
        → map (λ (r : NumberedLine). let m : Move = record { node = r.1.number; amount = pos 1 } in
        m) (cond b (x ∷ filter is_child_line (xs ++ ys)) (filter is_child_line (xs ++ ys)))
        ≡ map (λ (r : NumberedLine). let m : Move = record { node = r.1.number; amount = pos 1 } in
        m) (cond b (x ∷ filter is_child_line xs) (filter is_child_line xs)) ++ lines_given ys
    go true e = ap (λ t. let m : Move = record { node = x.1.number; amount = pos 1 } in m ∷ t) e
    go false e = e

weight_row : (r : NumberedLine) → weight (lines_given (r ∷ [])) ≤ 1
weight_row r = go (nat_lt 2 r.0)
  where
    go : (b : Bool) → weight (map (λ (r : NumberedLine). let m : Move = record { node = r.1.number; amount = pos 1 } in
        m) (cond b (r ∷ []) [])) ≤ 1
    go true = omega arith
    go false = omega arith

module _ {A : Type 0} (l : Listing A) where
  -- the lookups that the rows before an index give
  abbrev pub given : ℕ → List Move
  given index = lines_given (lines_before l index)

  row_is : (index : ℕ) (next : IsNext l index) → row_given l index ≡ lines_given (next.line ∷ [])
  row_is index next = ap (λ o. option_map_or (λ r. lines_given (r ∷ [])) o []) next.there

  -- the rows before the next index give what those before this one give, and what its row gives
  pub given_next : (index : ℕ) → l.from ≤ index → index < 2 + length l.children.now → given (index + 1) ≡ given index ++ row_given l index
  given_next index from until =
      let next = next_line l index from until in
      ap lines_given next.before ∙ given_on (lines_before l index) (next.line ∷ [])
      ∙ ap (λ m. given index ++ m) (sym (row_is index next))

  weight_given : (index : ℕ) → l.from ≤ index → index < 2 + length l.children.now → weight (row_given l index) ≤ 1
  weight_given index from until =
      let next = next_line l index from until in
      let w = weight_row next.line in
      let e = ap weight (row_is index next) in
      omega arith

  -- the rows before an index and the one there give no more than all that are answered
  pub given_less : (index : ℕ) → l.from ≤ index → index < 2 + length l.children.now → index < until_of l
      → length (given index) + length (row_given l index) ≤ length (given (until_of l))
  given_less index from there until =
      let next = ap length (given_next index from there) in
      let row = length-append (given index) (row_given l index) in
      let (rest, is) = before_later l (index + 1) (until_of l) (omega arith) in
      let all = ap length (ap lines_given is ∙ given_on (lines_before l (index + 1)) rest) in
      let sum = length-append (given (index + 1)) (lines_given rest) in
      omega arith

  given_before : (index : ℕ) → l.with_entries ≡ true → moves_before l index ≡ given index
  given_before index plus = ap (λ b. cond b (given index) []) plus

  none_before_it : (index : ℕ) → l.with_entries ≡ false → moves_before l index ≡ []
  none_before_it index plain = ap (λ b. cond b (given index) []) plain

  -- this many rows leave room for one more
  pub room_for_row : (index : ℕ) (now : List ℤ) → index - l.from ≤ 2 ^ 123 → AreWithin (2 ^ 123 + (index - l.from)) now
      → AreWithin (2 ^ 124) now
  room_for_row index now few within = within_less (2 ^ 123 + (index - l.from)) (2 ^ 124) now (omega arith) within

  -- a row with an entry adds what it gives
  pub entry_added : (index : ℕ) (now next : List ℤ) → l.from ≤ index → index < 2 + length l.children.now → l.with_entries ≡ true
      → AreWithin (2 ^ 123 + (index - l.from)) now → IsMoved (row_given l index) now next → AddsGiven l index (index + 1) now next
  entry_added index now next from there plus within step =
      let light = weight_given index from there in
      record {
        rows = λ first so_far.
            let before = subst (λ m. IsMoved m first now) (given_before index plus) so_far in
            subst (λ m. IsMoved m first next) (sym (given_before (index + 1) plus ∙ given_next index from there))
            (moved_on (given index) (row_given l index) first now next before step);
        within = within_less (2 ^ 123 + (index - l.from) + weight (row_given l index)) (2 ^ 123 + (index + 1 - l.from)) next (omega arith)
            (within_moved (2 ^ 123 + (index - l.from)) (row_given l index) now next within step);
      }

  -- rows without entries add nothing
  pub none_added : (index until : ℕ) (now : List ℤ) → index ≤ until → l.with_entries ≡ false → AreWithin (2 ^ 123 + (index - l.from)) now
      → AddsGiven l index until now now
  none_added index until now on plain within = record {
    rows = λ first so_far. subst (λ m. IsMoved m first now) (none_before_it index plain ∙ sym (none_before_it until plain)) so_far;
    within = within_less (2 ^ 123 + (index - l.from)) (2 ^ 123 + (until - l.from)) now (omega arith) within;
  }

  -- no row adds nothing
  pub adds_none : (index : ℕ) (now : List ℤ) → AreWithin (2 ^ 123 + (index - l.from)) now → AddsGiven l index index now now
  adds_none index now within = record { rows = λ first so_far. so_far; within = within }

  -- rows add what they give, and then those after them do
  pub adds_on : (from index until : ℕ) (old now next : List ℤ) → AddsGiven l from index old now → AddsGiven l index until now next
      → AddsGiven l from until old next
  adds_on from index until old now next some more = record {
    rows = λ first so_far. more.rows first (some.rows first so_far);
    within = more.within;
  }

  -- the rows from the first to the last add what the listing gives
  pub all_added : (index : ℕ) (old new : List ℤ) → index ≡ until_of l → AddsGiven l l.from index old new → IsMoved (listed_moves l) old new
  all_added index old new last adds =
      subst (λ (i : ℕ). IsMoved (moves_before l i) old new) last (adds.rows old (none_yet l.with_entries))
    where
      none_yet : (b : Bool) → IsMoved (cond b (given l.from) []) old old
      none_yet true = subst (λ ls. IsMoved (lines_given ls) old old) (sym (none_before l)) (none_moved old)
      none_yet false = none_moved old

  -- if an index is the last one's, everything answered gives what the rows before it give
  pub all_given : (index : ℕ) → index ≡ until_of l → given index ≡ lines_given (lines_answered l)
  all_given index is = ap given is

  -- before the first row balances have room for all
  pub first_within : (now : List ℤ) → AreWithin (2 ^ 123) now → AreWithin (2 ^ 123 + (l.from - l.from)) now
  first_within now within = within_less (2 ^ 123) (2 ^ 123 + (l.from - l.from)) now (omega arith) within

-- what is taken back of some and then others
taken_on : (stack : Stacked) (xs ys : List Forget) → taken_back stack (xs ++ ys) ≡ taken_back stack xs ++ taken_back stack ys
taken_on stack [] ys = refl
taken_on stack (x ∷ xs) ys = go (take_back stack x) (taken_on stack xs ys)
  where
    go : (o : Option Move) → taken_back stack (xs ++ ys) ≡ taken_back stack xs ++ taken_back stack ys
        → cons_option o (taken_back stack (xs ++ ys)) ≡ cons_option o (taken_back stack xs) ++ taken_back stack ys
    go None e = e
    go (Some m) e = ap (λ t. m ∷ t) e

weight_forget : (stack : Stacked) (f : Forget) → f.nlookup < 2 ^ 64 → weight (taken_back stack (f ∷ [])) ≤ 2 ^ 64
weight_forget stack f small = go (node_of stack.entries f.node)
  where
    go : (o : Option Place) → weight (cons_option
        (option_map (λ p. let m : Move = record { node = f.node; amount = neg_ℤ (pos f.nlookup) } in m) o) []) ≤ 2 ^ 64
    go None = omega arith
    go (Some p) = omega (arith, ints)

-- if the first item that is left is done, the others are left
split_next : (done rest later all : List Forget) (f : Forget) → rest ≡ f ∷ later → done ++ rest ≡ all → (done ++ f ∷ []) ++ later ≡ all
split_next done rest later all f is split = append_assoc done (f ∷ []) later ∙ ap (λ t. done ++ t) (sym is) ∙ split

-- if none is left, all are done
all_done : (done rest all : List Forget) → rest ≡ [] → done ++ rest ≡ all → done ≡ all
all_done done rest all none split = sym (append-nil done) ∙ ap (λ t. done ++ t) (sym none) ∙ split

-- this many of all items were taken back, and these are left
pub record IsTaken (stack : Stacked) (all rest : List Forget) (count : ℕ) (old new : List ℤ) : Type 0 where
  pub done : List Forget
  pub split : done ++ rest ≡ all
  pub count_is : count ≡ length done
  pub moved : IsMoved (taken_back stack done) old new
  pub within : AreWithin (2 ^ 123 + 2 ^ 64 * count) new

-- before the first item nothing was taken back
pub none_taken : (stack : Stacked) (all : List Forget) (old : List ℤ) → AreWithin (2 ^ 123) old → IsTaken stack all all 0 old old
none_taken stack all old within = record {
  done = [];
  split = refl;
  count_is = refl;
  moved = none_moved old;
  within = within_less (2 ^ 123) (2 ^ 123 + 2 ^ 64 * 0) old (omega arith) within;
}

-- if an item is taken back, one more of all items is
pub one_taken : (stack : Stacked) (all rest later : List Forget) (f : Forget) (count : ℕ) (old now next : List ℤ) → f.nlookup < 2 ^ 64
    → rest ≡ f ∷ later → IsTaken stack all rest count old now → IsMoved (taken_back stack (f ∷ [])) now next
    → IsTaken stack all later (count + 1) old next
one_taken stack all rest later f count old now next small is so_far step =
    let weighs = weight_forget stack f small in
    let len = length-append so_far.done (f ∷ []) in
    let c = so_far.count_is in
    record {
      done = so_far.done ++ f ∷ [];
      split = split_next so_far.done rest later all f is so_far.split;
      count_is = omega arith;
      moved = subst (λ m. IsMoved m old next) (sym (taken_on stack so_far.done (f ∷ [])))
          (moved_on (taken_back stack so_far.done) (taken_back stack (f ∷ [])) old now next so_far.moved step);
      within = within_less (2 ^ 123 + 2 ^ 64 * count + weight (taken_back stack (f ∷ []))) (2 ^ 123 + 2 ^ 64 * (count + 1)) next
          (omega arith)
          (within_moved (2 ^ 123 + 2 ^ 64 * count) (taken_back stack (f ∷ [])) now next so_far.within step);
    }

-- if none is left, all were taken back
pub none_left : (stack : Stacked) (all rest : List Forget) (count : ℕ) (old new : List ℤ) → rest ≡ []
    → IsTaken stack all rest count old new → IsMoved (taken_back stack all) old new
none_left stack all rest count old new none so_far =
    subst (λ fs. IsMoved (taken_back stack fs) old new) (all_done so_far.done rest all none so_far.split) so_far.moved

-- as long as items are left, balances are within 2^124
pub room_left : (count most : ℕ) (now : List ℤ) → count < most → most ≤ MAX_FORGETS → AreWithin (2 ^ 123 + 2 ^ 64 * count) now
    → AreWithin (2 ^ 124) now
room_left count most now less few within = within_less (2 ^ 123 + 2 ^ 64 * count) (2 ^ 124) now (omega arith) within

-- if as many were taken back as there are, all were
pub all_taken : (stack : Stacked) (all rest : List Forget) (count : ℕ) (old new : List ℤ) → length all ≤ count
    → IsTaken stack all rest count old new → IsMoved (taken_back stack all) old new
all_taken stack all rest count old new enough so_far =
    let len = length-append so_far.done rest in
    let whole = ap length so_far.split in
    let c = so_far.count_is in
    none_left stack all rest count old new (empty rest (omega arith)) so_far
  where
    empty : (fs : List Forget) → length fs ≤ 0 → fs ≡ []
    empty [] le = refl
    empty (f ∷ fs) le = absurd (omega (arith, le))

-- if some were appended and there is no room for the next, there is none for any list that begins with these
pub stopped : {A E : Type 0} (e : E) (before now after : Vec Move A) (done next all : List Move) → now.items ≡ before.items ++ done
    → after.items ≡ now.items → vec_capacity now < vec_len now + length next → vec_capacity before ≤ vec_capacity now
    → vec_capacity now ≤ vec_capacity after → length done + length next ≤ length all
    → Grows {E = E} (Err e) before after all
stopped e before now after done next all so_far same full room grown less =
    let sum = ap length so_far in
    let parts = length-append before.items done in
    let len = now.ok.0 in
    let first = before.ok.0 in
    (tt, (done, same ∙ so_far), omega arith, omega arith)

-- before the first row no move was appended
pub none_given : {A : Type 0} (l : Listing A) (before : List Move) → before ≡ before ++ given l l.from
none_given l before = sym (append-nil before) ∙ ap (λ ls. before ++ lines_given ls) (sym (none_before l))

-- if a row's move is appended after those before it, the moves before the next row are appended
pub row_appended : {A : Type 0} (l : Listing A) (index : ℕ) (before now next : List Move) → l.from ≤ index
    → index < 2 + length l.children.now
    → now ≡ before ++ given l index → next ≡ now ++ row_given l index → next ≡ before ++ given l (index + 1)
row_appended l index before now next from there so_far is =
    is ∙ ap (λ m. m ++ row_given l index) so_far ∙ append_assoc before (given l index) (row_given l index)
    ∙ ap (λ m. before ++ m) (sym (given_next l index from there))

-- some items, and one more, take back no more than all
pub taken_less : (stack : Stacked) (done : List Forget) (f : Forget) (later all rest : List Forget) → rest ≡ f ∷ later → done ++ rest ≡ all
    → length (taken_back stack done) + length (taken_back stack (f ∷ [])) ≤ length (taken_back stack all)
taken_less stack done f later all rest is split =
    let whole : taken_back stack all ≡ taken_back stack done ++ (taken_back stack (f ∷ []) ++ taken_back stack later) =
    ap (taken_back stack) (sym split) ∙ taken_on stack done rest
    ∙ ap (λ fs. taken_back stack done ++ taken_back stack fs) is ∙ ap (λ t. taken_back stack done ++ t) (taken_on stack (f ∷ []) later) in
    let a = ap length whole in
    let b = length-append (taken_back stack done) (taken_back stack (f ∷ []) ++ taken_back stack later) in
    let d = length-append (taken_back stack (f ∷ [])) (taken_back stack later) in
    omega arith

-- the lookups that items take back were appended, and these items are left
pub record AreTaken (stack : Stacked) (all rest : List Forget) (before now : List Move) : Type 0 where
  pub done : List Forget
  pub split : done ++ rest ≡ all
  pub moves : now ≡ before ++ taken_back stack done

-- before the first item nothing was appended
pub none_appended : (stack : Stacked) (all : List Forget) (before : List Move) → AreTaken stack all all before before
none_appended stack all before = record { done = []; split = refl; moves = sym (append-nil before) }

-- if the lookups that an item takes back are appended, one more of all items is done
pub one_appended : (stack : Stacked) (all rest later : List Forget) (f : Forget) (before now next : List Move) → rest ≡ f ∷ later
    → AreTaken stack all rest before now → next ≡ now ++ taken_back stack (f ∷ []) → AreTaken stack all later before next
one_appended stack all rest later f before now next is so_far step = record {
  done = so_far.done ++ f ∷ [];
  split = split_next so_far.done rest later all f is so_far.split;
  moves = step ∙ ap (λ m. m ++ taken_back stack (f ∷ [])) so_far.moves
      ∙ append_assoc before (taken_back stack so_far.done) (taken_back stack (f ∷ []))
      ∙ ap (λ m. before ++ m) (sym (taken_on stack so_far.done (f ∷ [])));
}

-- if none is left, the lookups that all items take back were appended
pub all_appended : (stack : Stacked) (all rest : List Forget) (before now : List Move) → rest ≡ [] → AreTaken stack all rest before now
    → now ≡ before ++ taken_back stack all
all_appended stack all rest before now none so_far =
    so_far.moves ∙ ap (λ fs. before ++ taken_back stack fs) (all_done so_far.done rest all none so_far.split)
