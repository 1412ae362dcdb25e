-- The turns of a walk over the rows of a directory: before the first nothing is put (`no_turn`), each puts the line of its row and the
-- lines below it (`turn_more`), and all of them put the lines below the directory (`all_turns`).
use Rattle.std.proofs.Common.{◌≡◌, ◌∙◌, sym, ap, ℕ, ◌+◌, ◌<◌, ◌≤◌, List, [], ◌∷◌, ◌++◌, length, take, drop, get_or, Ok, Err, append_assoc, length-append, take_all, take-append-drop, arith}
use Rattle.std.proofs.lemmas.List.{take-append-le}
use Rattle.std.proofs.lemmas.List.Concat.{flat_map-append}
use Rattle.std.specs.Prelude.{flat_map, Result, IsErr}
use Rattle.devices.specs.declared.failed.Failed.{Failed}
use Rattle.devices.specs.Pushing.{Settles}
use Rattle.stack_model.specs.Stack.{Path}
use Rattle.stack_model.specs.Listing.{Stacked}
use Rattle.node_reader.specs.Rows.{Line}
use Rattle.node_reader.specs.Readers.{rows_at}
use Rattle.node_list.specs.declared.path_text.TheConstants.{LONGEST}
use Rattle.node_list.specs.Lines.{name_text, printed}
use Rattle.node_list.specs.Walks.{Passage, Gains, Puts, PutsBelow, IsVisited, IsOnWay, line_as, lines_below, piece_at}
use Rattle.node_list.proofs.Gaining.{puts_none, gains_more, gains_same, loses_longer, loses_more, loses_same, one_more}
use Rattle.node_list.proofs.Visits.{IsTurn, fits, goes_on, walked}

-- what rows put
abbrev pub pieces : Stacked → List Line → Path → List ℕ
pieces stack rows path = flat_map (piece_at stack path) rows

-- the calls so far put this part for the path that is visited at this number and this text, and none failed
pub record PutsSoFar (stack : Stacked) (n : ℕ) (text : List ℕ) (old new : Passage) (bytes : Path → List ℕ) : Type 0 where
  pub gained : (path : Path) → IsVisited stack n text path → Gains old new (bytes path)
  pub counted : Settles {X = Unit {0}} {E = Failed} (Ok tt) old.sink new.sink

-- a text that grew and is cut back is unchanged
pub cut_back : (text more : List ℕ) {n : ℕ} {long : List ℕ} → long ≡ text ++ more → n ≡ length text → take n long ≡ text
cut_back text more {n} {long} e f = ap (λ q. take n q) e ∙ ap (λ k. take k (text ++ more)) f
    ∙ take-append-le (length text) text more (omega arith) ∙ take_all (length text) text (omega arith)

module _ (stack : Stacked) (n : ℕ) (text : List ℕ) where
  -- before the first turn nothing is put
  pub no_turn : (rows : List Line) (w : Passage) → PutsSoFar stack n text w w (pieces stack (take 0 rows))
  no_turn rows w =
      let p = puts_none {X = Unit {0}} {E = Failed} tt w in
      record { gained = λ path v. p.gained; counted = p.counted }

  -- the name of the row whose turn it is has room after the text
  pub name_fits : {rows : List Line} {i m : ℕ} {name : List ℕ} → IsOnWay stack n text → IsTurn stack n rows i m name
      → length text + length (name_text name) < LONGEST
  name_fits {name = name} v t =
      let l = fits stack _ (text ++ 47 ∷ name_text name) _ (goes_on stack n text v.0 v.1 t) in
      let e = length-append text (47 ∷ name_text name) in
      omega (arith, l, e)

  -- the walk continues to the row whose turn it is
  pub on_way : {rows : List Line} {i m : ℕ} {name : List ℕ} → IsOnWay stack n text → IsTurn stack n rows i m name
      → IsOnWay stack m (text ++ 47 ∷ name_text name)
  on_way v t = (_, goes_on stack n text v.0 v.1 t)

  -- a turn puts a row's line and the lines below it
  pub turn_more : {u v w x : Passage} {rows : List Line} {i m : ℕ} {name : List ℕ} → IsTurn stack n rows i m name
      → PutsSoFar stack n text u v (pieces stack (take i rows))
      → Puts {X = Unit {0}} {E = Failed} (Ok tt) v w (line_as stack m (printed (text ++ 47 ∷ name_text name)))
      → PutsBelow {X = Unit {0}} {E = Failed} stack m (text ++ 47 ∷ name_text name) (Ok tt) w x
      → PutsSoFar stack n text u x (pieces stack (take (i + 1) rows))
  turn_more {rows = rows} {i = i} {m = m} {name = name} turn before line below = record {
    gained = λ path v.
        let on = goes_on stack n text path v turn in
        let row : Line = record { number = m; name = name } in
        let row_is : row ≡ turn.row = ap (λ k. record { number = k; name = name }) turn.number_is
        ∙ ap (λ k. record { number = turn.row.number; name = k }) turn.name_is in
        let piece = piece_at stack path in
        let head = ap (λ q. line_as stack m (printed q)) on.text_is in
        let here = ap (λ q. q ++ lines_below stack (path ++ name ∷ [])) head ∙ ap piece (row_is ∙ turn.row_is) in
        gains_same
        (append_assoc (flat_map piece (take i rows)) (line_as stack m (printed (text ++ 47 ∷ name_text name))) (lines_below stack (path
        ++ name ∷ []))
        ∙ ap (λ q. flat_map piece (take i rows) ++ q) here ∙ sym (one_more piece rows i turn.row turn.within))
        (gains_more (gains_more (before.gained path v) line.gained) (below.gained (path ++ name ∷ []) on));
    counted = (
      below.counted.0 ∙ line.counted.0 ∙ before.counted.0,
      (let a = before.counted.1 in let b = line.counted.1 in let c = below.counted.1 in omega arith),
    );
  }

  -- what the rows before one put, what this one puts and what those after it put are the lines below the directory
  all_pieces : (path : Path) → IsVisited stack n text path → (rows : List Line) (i : ℕ) (row : Line) → rows ≡ rows_at stack n
      → i < length rows → get_or rows i row ≡ row
      → flat_map (piece_at stack path) (take i rows) ++ (piece_at stack path row ++ flat_map (piece_at stack path) (drop (i + 1) rows))
      ≡ lines_below stack path
  all_pieces path v rows i row e l g =
      let piece = piece_at stack path in
      let front = flat_map piece (take i rows) in
      let behind = flat_map piece (drop (i + 1) rows) in
      let this : flat_map piece (take (i + 1) rows) ≡ front ++ piece row =
      one_more piece rows i row l ∙ ap (λ r. front ++ piece r) g in
      let split : flat_map piece rows ≡ flat_map piece (take (i + 1) rows) ++ behind =
      ap (λ r. flat_map piece r) (sym (take-append-drop (i + 1) rows)) ∙ flat_map-append piece (take (i + 1) rows) (drop (i + 1) rows) in
      let whole : flat_map piece rows ≡ lines_below stack path =
      ap (λ r. flat_map piece r) (sym (take_all (length rows) rows (omega arith))) ∙ walked stack n text path v rows (length rows) e
      (omega arith) in
      sym (append_assoc front (piece row) behind) ∙ ap (λ t. t ++ behind) (sym this) ∙ sym split ∙ whole

  -- the line of the row whose turn it is, and those below it, are its piece
  this_piece : {rows : List Line} {i m : ℕ} {name : List ℕ} (path : Path) → IsVisited stack n text path
      → (turn : IsTurn stack n rows i m name)
      → line_as stack m (printed (text ++ 47 ∷ name_text name)) ++ lines_below stack (path ++ name ∷ [])
      ≡ piece_at stack path turn.row
  this_piece {m = m} {name = name} path v turn =
      let on = goes_on stack n text path v turn in
      let row : Line = record { number = m; name = name } in
      let row_is : row ≡ turn.row = ap (λ k. record { number = k; name = name }) turn.number_is
      ∙ ap (λ k. record { number = turn.row.number; name = k }) turn.name_is in
      ap (λ q. q ++ lines_below stack (path ++ name ∷ [])) (ap (λ q. line_as stack m (printed q)) on.text_is)
      ∙ ap (piece_at stack path) row_is

  -- if the line of a row is not put, the lines below the directory are not
  pub line_broken : {X E Y F : Type 0} {e : F} {u v w : Passage} {rows : List Line} {i m : ℕ} {name : List ℕ}
      (r : Result X E) → IsTurn stack n rows i m name
      → PutsSoFar stack n text u v (pieces stack (take i rows))
      → Puts {X = Y} (Err e) v w (line_as stack m (printed (text ++ 47 ∷ name_text name))) → IsErr r
      → PutsBelow stack n text r u w
  line_broken (Ok x) turn before line is = absurd (cc)
  line_broken {u = u} {v = v} {w = w} {rows = rows} {i = i} {m = m} {name = name} (Err d) turn before line is = record {
    gained = λ path v. tt;
    lost = λ path v.
        let a = flat_map (piece_at stack path) (take i rows) in
        let l = line_as stack m (printed (text ++ 47 ∷ name_text name)) in
        let b = lines_below stack (path ++ name ∷ []) in
        let z = flat_map (piece_at stack path) (drop (i + 1) rows) in
        loses_same
        (append_assoc a l (b ++ z) ∙ ap (λ t. a ++ t) (sym (append_assoc l b z) ∙ ap (λ t. t ++ z) (this_piece path v turn))
        ∙ all_pieces path v rows i turn.row turn.rows_are turn.within (sym turn.row_is))
        (loses_longer (b ++ z) (loses_more (before.gained path v) line.lost));
    counted = line.counted ∙ ap (λ k. k + 1) before.counted.0;
  }

  -- if the lines below a row are not put, the lines below the directory are not
  pub below_broken : {X E Y Z F G : Type 0} {e : F} {u v w x : Passage} {rows : List Line} {i m : ℕ}
      {name : List ℕ} {y : Y} (r : Result X E) → IsTurn stack n rows i m name
      → PutsSoFar stack n text u v (pieces stack (take i rows))
      → Puts {E = G} (Ok y) v w (line_as stack m (printed (text ++ 47 ∷ name_text name)))
      → PutsBelow {X = Z} stack m (text ++ 47 ∷ name_text name) (Err e) w x → IsErr r → PutsBelow stack n text r u x
  below_broken (Ok k) turn before line below is = absurd (cc)
  below_broken {rows = rows} {i = i} {m = m} {name = name} (Err d) turn before line below is = record {
    gained = λ path v. tt;
    lost = λ path v.
        let a = flat_map (piece_at stack path) (take i rows) in
        let l = line_as stack m (printed (text ++ 47 ∷ name_text name)) in
        let b = lines_below stack (path ++ name ∷ []) in
        let z = flat_map (piece_at stack path) (drop (i + 1) rows) in
        loses_same
        (append_assoc (a ++ l) b z ∙ append_assoc a l (b ++ z)
        ∙ ap (λ t. a ++ t) (sym (append_assoc l b z) ∙ ap (λ t. t ++ z) (this_piece path v turn))
        ∙ all_pieces path v rows i turn.row turn.rows_are turn.within (sym turn.row_is))
        (loses_longer z (loses_more (gains_more (before.gained path v) line.gained)
        (below.lost (path ++ name ∷ []) (goes_on stack n text path v turn))));
    counted = below.counted ∙ ap (λ k. k + 1) (line.counted.0 ∙ before.counted.0);
  }

  -- all turns put the lines below the directory
  pub all_turns : {u w : Passage} (rows : List Line) (i : ℕ) → rows ≡ rows_at stack n → length rows ≤ i
      → PutsSoFar stack n text u w (pieces stack (take i rows)) → PutsBelow {X = Unit {0}} {E = Failed} stack n text (Ok tt) u w
  all_turns rows i e l p = record {
    gained = λ path v. gains_same (walked stack n text path v rows i e l) (p.gained path v);
    lost = λ path v. tt;
    counted = p.counted;
  }

-- what is put below a path that is visited is put
pub puts_at : {X E : Type 0} {q : Result X E} {stack : Stacked} {n : ℕ} {text : List ℕ} {u w : Passage} (path : Path)
    → IsVisited stack n text path → PutsBelow stack n text q u w → Puts q u w (lines_below stack path)
puts_at path v p = record { gained = p.gained path v; lost = p.lost path v; counted = p.counted }
