-- What a walk finds at a directory: the rows are those of the entries one name below it. `goes_on` and `walked` are what the walk uses:
-- each row leads to a visit, and the pieces of all rows are all lines below the path.
use Rattle.std.proofs.Common.{◌≡◌, ◌∙◌, sym, ap, subst, ℕ, zero, suc, ◌<◌, ◌≤◌, inl, inr, List, [], ◌∷◌, ◌++◌, length, map, take, get_or, refl, Option, Some, None, Bool, true, false, IsSome, arith}
use Rattle.std.specs.Prelude.{flat_map, filter_map, find, nat_eq}
use Rattle.std.proofs.lemmas.List.{take_all}
use Rattle.std.proofs.lemmas.Bool.{eqb-true, eq-eqb, and_parts}
use Rattle.stack_model.specs.Stack.{Path}
use Rattle.stack_model.specs.Listing.{Entry, Rises, IsAmong}
use Rattle.stack_model.specs.Numbers.{Place, Child, place, same_place, number_of, number, node_of, name_below, child_in, children}
use Rattle.stack_model.specs.Attributes.{is_directory_at}
use Rattle.stack_model.proofs.Numbering.{number_used, entries_numbered}
use Rattle.stack_model.specs.Listing.{Stacked}
use Rattle.node_reader.specs.Rows.{Line}
use Rattle.node_reader.specs.Readers.{rows_at}
use Rattle.node_list.specs.declared.path_text.TheConstants.{LONGEST}
use Rattle.node_list.specs.Lines.{name_text, names_text}
use Rattle.node_list.specs.Below.{after, is_below, below}
use Rattle.node_list.specs.Walks.{lines_below, piece_at, IsVisited}
use Rattle.node_list.proofs.Paths.{not_itself, after_is, only_name, name_is, later}
use Rattle.node_list.proofs.Branching.{piece, all_below}
use Rattle.node_list.proofs.Gaining.{way_more}

same_itself : (p : Place) → same_place p p ≡ true
same_itself p = rw (eq-eqb p.0 p.0 refl, eq-eqb p.1 p.1 refl) refl

same_is : (p q : Place) → same_place p q ≡ true → p ≡ q
same_is p q e = let b = and_parts (nat_eq p.0 q.0) (nat_eq p.1 q.1) e in let f = eqb-true p.0 q.0 b.0 in let g = eqb-true p.1 q.1 b.1 in
    ap (λ x. (x, p.1)) f ∙ ap (λ y. (q.0, y)) g

-- the first entry with a place
first_entry : (p : Place) (es : List Entry) (e : Entry) → IsAmong e es → place e ≡ p
    → (f : Entry) × (find (λ d. same_place p (place d)) es ≡ Some f) × IsAmong f es × (place f ≡ p)
first_entry p [] e a i = elim a [ ]
first_entry p (d ∷ es) e a i = go (same_place p (place d)) refl a (λ b. first_entry p es e b i)
  where
    go : (b : Bool) → same_place p (place d) ≡ b → IsAmong e (d ∷ es)
        → (IsAmong e es → (f : Entry) × (find (λ d. same_place p (place d)) es ≡ Some f) × IsAmong f es × (place f ≡ p))
        → (f : Entry) × (find (λ d. same_place p (place d)) (d ∷ es) ≡ Some f) × IsAmong f (d ∷ es) × (place f ≡ p)
    go true s a on = (d, rw s refl, inl refl, sym (same_is p (place d) s))
    go false s (inl j) on = absurd (let z : same_place p (place d) ≡ true = rw (sym i, j) (same_itself (place d)) in cc)
    go false s (inr b) on = let r = on b in (r.0, rw s r.1, inr r.2, r.3)

-- one entry has a path
one_entry : (es : List Entry) → Rises es → (d e : Entry) → IsAmong d es → IsAmong e es → d.path ≡ e.path → d ≡ e
one_entry [] r d e a b p = elim a [ ]
one_entry (f ∷ es) r d e (inl i) (inl j) p = i ∙ sym j
one_entry (f ∷ es) r d e (inl i) (inr b) p = absurd (not_itself e.path (rw (sym i, p) at (later f es e r.0 b)))
one_entry (f ∷ es) r d e (inr a) (inl j) p = absurd (not_itself d.path (rw (sym j, sym p) at (later f es d r.0 a)))
one_entry (f ∷ es) r d e (inr a) (inr b) p = one_entry es r.1 d e a b p

-- the number of an entry's place is that of a node with this place
pub numbered : (entries : List Entry) (e : Entry) → IsAmong e entries → node_of entries (number entries (place e)) ≡ Some (place e)
numbered entries e a = go (number_of entries (place e)) refl (entries_numbered entries e e a a).0
  where
    go : (o : Option ℕ) → number_of entries (place e) ≡ o → IsSome (number_of entries (place e))
        → node_of entries (number entries (place e)) ≡ Some (place e)
    go None f s = absurd (let z = rw f at s in cc)
    go (Some m) f s = rw f ((number_used entries m (place e)).0 f)

-- an entry one name below a path
name_path : (top path : Path) (n : List ℕ) → name_below top path ≡ Some n → path ≡ top ++ n ∷ []
name_path top path n e = go (after top path) refl (sym (name_is top path) ∙ e)
  where
    go : (o : Option Path) → after top path ≡ o → only_name (after top path) ≡ Some n → path ≡ top ++ n ∷ []
    go None f g = absurd (let z = rw f at g in cc)
    go (Some []) f g = absurd (let z = rw f at g in cc)
    go (Some (m ∷ [])) f g = let z : Some m ≡ Some n = rw f at g in let s : m ≡ n = cc in after_is top path (m ∷ []) f
        ∙ ap (λ k. top ++ k ∷ []) s
    go (Some (m ∷ k ∷ r)) f g = absurd (let z = rw f at g in cc)

-- it is the turn of the row at i, which has this number and this name
pub record IsTurn (stack : Stacked) (n : ℕ) (rows : List Line) (i m : ℕ) (name : List ℕ) : Type 0 where
  pub row : Line
  pub rows_are : rows ≡ rows_at stack n
  pub within : i < length rows
  pub row_is : row ≡ get_or rows i row
  pub number_is : m ≡ row.number
  pub name_is : name ≡ row.name

-- a row that is read at i by its number and its name is the one whose turn it is
pub turn_of : {stack : Stacked} {n : ℕ} {rows : List Line} {i m : ℕ} {row : Line} {own name : List ℕ} → rows ≡ rows_at stack n
    → i < length rows → row ≡ get_or rows i row → ◌≡◌ {A = Line} (record { number = m; name = own }) row → name ≡ row.name
    → IsTurn stack n rows i m name
turn_of {row = row} rows_are within row_is view_is name_is = record {
  row = row;
  rows_are = rows_are;
  within = within;
  row_is = row_is;
  number_is = ap (λ (l : Line). l.number) view_is;
  name_is = name_is;
}

module _ (stack : Stacked) (n : ℕ) (text : List ℕ) (path : Path) (v : IsVisited stack n text path) where
  abbrev layers : List (List ℕ)
  layers = stack.layers

  abbrev entries : List Entry
  entries = stack.entries

  abbrev row_of : Child → Line
  row_of c = record { number = number entries c.place; name = c.name }

  abbrev rows_in : List Entry → List Line
  rows_in es = map row_of (filter_map (child_in path) es)

  -- the row is that of a shown path one name below
  pub record IsRow (row : Line) : Type 0 where
    pub entry : Entry
    pub among : IsAmong entry entries
    pub path_is : entry.path ≡ path ++ row.name ∷ []
    pub number_is : row.number ≡ number entries (place entry)

  row_in : (es : List Entry) → ((e : Entry) → IsAmong e es → IsAmong e entries) → (i : ℕ) (d : Line) → i < length (rows_in es)
      → IsRow (get_or (rows_in es) i d)
  row_in [] s i d l = absurd (omega arith)
  row_in (e ∷ es) s i d l = go (name_below path e.path) refl i l (λ j k. row_in es (λ f a. s f (inr a)) j d k)
    where
      go : (o : Option (List ℕ)) → name_below path e.path ≡ o → (i : ℕ) → i < length (rows_in (e ∷ es))
          → ((j : ℕ) → j < length (rows_in es) → IsRow (get_or (rows_in es) j d)) → IsRow (get_or (rows_in (e ∷ es)) i d)
      go None f i l on = rw f (on i (rw f at l))
      go (Some m) f zero l on = rw f (record { entry = e; among = s e (inl refl); path_is = name_path path e.path m f; number_is = refl })
      go (Some m) f (suc i) l on = rw f (on i (let k : suc i < suc (length (rows_in es)) = rw f at l in omega arith))

  pieces_in : (es : List Entry) → ((e : Entry) → IsAmong e es → IsAmong e entries) → flat_map (piece_at stack path) (rows_in es)
      ≡ flat_map (piece stack path) (filter_map (child_in path) es)
  pieces_in [] s = refl
  pieces_in (e ∷ es) s = go (name_below path e.path) refl (pieces_in es (λ f a. s f (inr a)))
    where
      go : (o : Option (List ℕ)) → name_below path e.path ≡ o → flat_map (piece_at stack path) (rows_in es)
          ≡ flat_map (piece stack path) (filter_map (child_in path) es) → flat_map (piece_at stack path) (rows_in (e ∷ es))
          ≡ flat_map (piece stack path) (filter_map (child_in path) (e ∷ es))
      go None f on = rw f on
      go (Some m) f on = rw (f, numbered entries e (s e (inl refl)))
          (ap (λ r. piece stack path (record { name = m; place = place e }) ++ r) on)

  at_node : node_of entries n ≡ Some (place v.entry)
  at_node = rw v.number_is (numbered entries v.entry v.among)

  -- a directory's rows
  rows_there : is_directory_at layers (place v.entry) ≡ true → rows_at stack n ≡ rows_in entries
  unfolding children
  rows_there k =
      let f = first_entry (place v.entry) entries v.entry v.among refl in
      let p : f.0.path ≡ path = v.tree.once f.0 v.entry f.2 v.among f.3 (rw f.3 k) ∙ v.path_is in
      rw (at_node, k, f.1, p) refl

  -- nothing is below what is not a directory
  none_there : is_directory_at layers (place v.entry) ≡ false → rows_at stack n ≡ []
  none_there k = rw (at_node, k) refl

  empty_there : is_directory_at layers (place v.entry) ≡ false → below entries path ≡ []
  unfolding below
  empty_there k = go entries (λ e a. a)
    where
      not_below : (e : Entry) → IsAmong e entries → (o : Option Path) → after path e.path ≡ o → is_below path e.path ≡ false
      not_below e a None f = rw f refl
      not_below e a (Some []) f = rw f refl
      not_below e a (Some (m ∷ r)) f =
          let d = v.tree.above e path r m a (after_is path e.path (m ∷ r) f) in
          let s : d.0 ≡ v.entry = one_entry entries v.tree.rising d.0 v.entry d.1 v.among (d.2 ∙ sym v.path_is) in
          absurd (let z = rw s at d.3 in let w = sym z ∙ k in cc)

      go : (es : List Entry) → ((e : Entry) → IsAmong e es → IsAmong e entries) → below es path ≡ []
      go [] s = refl
      go (e ∷ es) s = rw (not_below e (s e (inl refl)) (after path e.path) refl) (go es (λ f a. s f (inr a)))

  -- each row of the directory is that of a shown path one name below
  row_at : (i : ℕ) (d : Line) → i < length (rows_at stack n) → IsRow (get_or (rows_at stack n) i d)
  row_at i d l = go (is_directory_at layers (place v.entry)) refl
    where
      go : (b : Bool) → is_directory_at layers (place v.entry) ≡ b → IsRow (get_or (rows_at stack n) i d)
      go true k = let r = rows_there k in rw r (row_in entries (λ e a. a) i d (rw r at l))
      go false k = absurd (let m : i < length {A = Line} [] = rw (none_there k) at l in omega arith)

  -- the pieces of all rows are the lines below the path
  pub all_rows : flat_map (piece_at stack path) (rows_at stack n) ≡ lines_below stack path
  all_rows = go (is_directory_at layers (place v.entry)) refl
    where
      go : (b : Bool) → is_directory_at layers (place v.entry) ≡ b → flat_map (piece_at stack path) (rows_at stack n)
          ≡ lines_below stack path
      go true k = rw (rows_there k) (pieces_in entries (λ e a. a) ∙ sym (all_below stack path v.tree))
      go false k = rw (none_there k, empty_there k) refl

  -- the text of the path has room
  pub fits : length text ≤ LONGEST
  fits = subst (λ t. length t ≤ LONGEST) (ap names_text v.path_is ∙ sym v.text_is) (v.short.each v.entry v.among)

  visit_row : (row : Line) → IsRow row → IsVisited stack row.number (text ++ 47 ∷ name_text row.name) (path ++ row.name ∷ [])
  visit_row row r = record {
    tree = v.tree;
    short = v.short;
    entry = r.entry;
    among = r.among;
    path_is = r.path_is;
    number_is = r.number_is;
    text_is = ap (λ t. t ++ 47 ∷ name_text row.name) v.text_is ∙ way_more path row.name;
  }

  -- the walk continues to the row whose turn it is
  pub goes_on : {rows : List Line} {i m : ℕ} {name : List ℕ} → IsTurn stack n rows i m name
      → IsVisited stack m (text ++ 47 ∷ name_text name) (path ++ name ∷ [])
  goes_on {rows} {i} {m} {name} t =
      let k : i < length (rows_at stack n) = subst (λ r. i < length r) t.rows_are t.within in
      let same : get_or (rows_at stack n) i t.row ≡ t.row = ap (λ r. get_or r i t.row) (sym t.rows_are) ∙ sym t.row_is in
      let v = visit_row t.row (subst (λ x. IsRow x) same (row_at i t.row k)) in
      subst (λ x. IsVisited stack x (text ++ 47 ∷ name_text name) (path ++ name ∷ [])) (sym t.number_is)
      (subst (λ x. IsVisited stack t.row.number (text ++ 47 ∷ name_text x) (path ++ x ∷ [])) (sym t.name_is) v)

  -- all rows are walked
  pub walked : (rows : List Line) (i : ℕ) → rows ≡ rows_at stack n → length rows ≤ i → flat_map (piece_at stack path) (take i rows)
      ≡ lines_below stack path
  walked rows i e l = ap (flat_map (piece_at stack path)) (take_all i rows l ∙ e) ∙ all_rows
