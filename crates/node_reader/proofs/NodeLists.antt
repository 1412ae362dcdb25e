-- The extended attributes of nodes: the list of a place is that of its row (list_is), what is kept for a node is what its place has
-- (node_list, any_more, nodes_held, bare_more, nodes_bare), and so is what a table answers (xattrs_are, xattrs_none, some_has, acls_have).
use Rattle.std.proofs.Common.{◌≡◌, ◌∙◌, sym, ap, subst, ℕ, zero, suc, ◌+◌, ◌<◌, inl, inr, List, [], ◌∷◌, length, map, take, get_or, length-take, Bool, true, false, not, Option, Some, None, MatchOption, cond, refl, arith}
use Rattle.std.specs.Prelude.{◌==◌, ◌||◌, nat_lt}
use Rattle.std.specs.List.{list_any, position_or_len, slice_index_or}
use Rattle.std.specs.Option.{option_map, option_map_or}
use Rattle.std.proofs.lemmas.Bool.{cases_lt, cases_order, lt-ltb, le-ltb}
use Rattle.std.proofs.lemmas.List.{get_or-take, get_or_past, get_or_default}
use Rattle.std.proofs.lemmas.List.Folds.{list_any_more}
use Rattle.romfs_format.specs.declared.attribute_row.AttributeRow.{AttributeRow}
use Rattle.romfs_format.specs.Extended.{Extended}
use Rattle.romfs_format.specs.Trailer.{list_at}
use Rattle.romfs_rows.specs.Order.{position_at}
use Rattle.stack_model.specs.Listing.{Stacked}
use Rattle.stack_model.specs.Numbers.{Place, nodes, node_of}
use Rattle.stack_model.specs.Attributes.{list_in, xattrs_of, has_xattrs, has_acls}
use Rattle.node_reader.specs.declared.node.Node.{Node}
use Rattle.node_reader.specs.Directories.{HeldDirectories}
use Rattle.node_reader.specs.Readers.{placed, xattrs_at}
use Rattle.node_reader.specs.Held.{IsTable}
use Rattle.node_reader.specs.Stamps.{held_at, ArePaired}
use Rattle.node_reader.specs.Xattrs.{HeldXattrs, list_behind, list_held, row_number, xattrs_held, has_some, has_acl, list_of_node, AreBare, AreXattrsOf}
use Rattle.node_reader.proofs.Nodes.{held_map, here, nowhere}
use Rattle.node_reader.proofs.Stamps.{paired_is}

-- the list after the position that a search gives
abbrev behind : List (List Extended) → Bool → ℕ → List Extended
behind ys there i = list_behind ys (option_map_or (λ position. position + 1) (cond there (Some i) None) 0)

behind_none : (there : Bool) (i : ℕ) → behind [] there i ≡ []
behind_none true i = let f : i + 1 ≡ suc i = omega arith in rw f refl
behind_none false i = refl

-- after a row that is not the one, positions are one higher
behind_more : (ys : List Extended) (yss : List (List Extended)) (k n : ℕ)
    → behind (ys ∷ yss) (nat_lt (1 + k) (suc n)) (1 + k) ≡ behind yss (nat_lt k n) k
behind_more ys yss k n = elim (cases_lt k n) [
  | inl l ↦ (
      let a = lt-ltb (1 + k) (suc n) (omega arith) in
      let b = lt-ltb k n l in
      let e : 1 + k + 1 ≡ suc (suc k) = omega arith in
      let f : k + 1 ≡ suc k = omega arith in
      rw (a, b, e, f) refl)
  | inr l ↦ (
      let a = le-ltb (1 + k) (suc n) (omega arith) in
      let b = le-ltb k n l in
      rw (a, b) refl)
]

-- the first row is the one, or it is among the others
first_or : (b : Bool) (ys : List Extended) (yss : List (List Extended)) (k n : ℕ) (rest : List Extended)
    → rest ≡ behind yss (nat_lt k n) k
    → cond b ys rest ≡ behind (ys ∷ yss) (nat_lt (cond (not b) (1 + k) 0) (suc n)) (cond (not b) (1 + k) 0)
first_or true ys yss k n rest h = let a = lt-ltb 0 (suc n) (omega arith) in rw a refl
first_or false ys yss k n rest h = h ∙ sym (behind_more ys yss k n)

module _ (p : ℕ) where
  abbrev is_for : AttributeRow → Bool
  is_for row = row.place == p

  -- the list of a place is that after the position of its row
  pub list_is : (xs : List AttributeRow) (yss : List (List Extended))
      → list_at xs yss p ≡ list_behind yss (option_map_or (λ position. position + 1) (position_at xs p) 0)
  list_is [] yss = refl
  list_is (x ∷ xs) [] = sym (behind_none _ (position_or_len is_for (x ∷ xs)))
  list_is (x ∷ xs) (ys ∷ yss) =
      first_or (is_for x) ys yss (position_or_len is_for xs) (length xs) (list_at xs yss p) (list_is xs yss)

module _ (rows : List (List AttributeRow)) (lists : List (List (List Extended))) where
  -- what is held of a node is what its place has
  pub node_list : (node : Node) → list_held lists node.place.layer (row_number rows node) ≡ list_of_node rows lists node
  node_list node =
      sym (list_is node.place.header (slice_index_or rows node.place.layer []) (slice_index_or lists node.place.layer []))

  -- one more node has a list of some kind, or one before it did
  pub any_more : (f : List Extended → Bool) (held : List Node) (i : ℕ) (d : Node) (n : ℕ) (before after : Bool)
      → i < length held → n ≡ row_number rows (get_or held i d)
      → before ≡ list_any (λ x. f (list_of_node rows lists x)) (take i held)
      → after ≡ (before || f (list_held lists (get_or held i d).place.layer n))
      → after ≡ list_any (λ x. f (list_of_node rows lists x)) (take (i + 1) held)
  any_more f held i d n before after l number b a =
      let g : Node → Bool = (λ x. f (list_of_node rows lists x)) in
      a ∙ ap (λ k. before || f (list_held lists (get_or held i d).place.layer k)) number
      ∙ ap (λ xs. before || f xs) (node_list (get_or held i d)) ∙ ap (λ o. o || g (get_or held i d)) b
      ∙ sym (list_any_more g held i d l)

  -- where each node's row is held
  pub nodes_held : (held : List Node) (x : HeldXattrs) → x.lists ≡ lists → x.positions ≡ map (row_number rows) held
      → x.some ≡ list_any (λ node. has_some (list_of_node rows lists node)) held
      → x.acls ≡ list_any (λ node. has_acl (list_of_node rows lists node)) held → AreXattrsOf rows held x
  nodes_held held x is found some acls = record {
    each = each;
    some_are = some ∙ ap (λ l. list_any (λ node. has_some (list_of_node rows l node)) held) (sym is);
    acls_are = acls ∙ ap (λ l. list_any (λ node. has_acl (list_of_node rows l node)) held) (sym is);
  }
    where
      each : (n : ℕ) (node : Node) → held_at held n ≡ Some node → xattrs_held x n node ≡ list_of_node rows x.lists node
      each n node e =
          let number : held_at x.positions n ≡ Some (row_number rows node) =
          ap (λ ps. held_at ps n) found ∙ held_map (row_number rows) held n ∙ ap (option_map (row_number rows)) e in
          rw (number, is) (node_list node)

  -- if no row has a list, no node has one
  pub bare_list : AreBare lists → (node : Node) → list_of_node rows lists node ≡ []
  bare_list bare node = sym (node_list node) ∙ go (row_number rows node)
    where
      go : (n : ℕ) → list_held lists node.place.layer n ≡ []
      go zero = refl
      go (suc n) = bare.each node.place.layer n

  none_any : (f : List Extended → Bool) → f [] ≡ false → AreBare lists → (held : List Node)
      → list_any (λ node. f (list_of_node rows lists node)) held ≡ false
  none_any f e bare [] = refl
  none_any f e bare (node ∷ held) = rw (bare_list bare node, e) (none_any f e bare held)

  pub nodes_bare : (held : List Node) (x : HeldXattrs) → x.lists ≡ lists → AreBare lists → x.positions ≡ [] → x.some ≡ false
      → x.acls ≡ false → AreXattrsOf rows held x
  nodes_bare held x is bare empty some acls = record {
    each = λ n node e. rw (empty, none n, is) (sym (bare_list bare node));
    some_are = some ∙ sym (none_any has_some refl bare held)
        ∙ ap (λ l. list_any (λ node. has_some (list_of_node rows l node)) held) (sym is);
    acls_are = acls ∙ sym (none_any has_acl refl bare held)
        ∙ ap (λ l. list_any (λ node. has_acl (list_of_node rows l node)) held) (sym is);
  }
    where
      none : (n : ℕ) → held_at {A = ℕ} [] n ≡ None
      none zero = refl
      none (suc n) = refl

-- the list at the position that is kept for a number, or none
abbrev told_by : List (List (List Extended)) → List ℕ → ℕ → Node → List Extended
told_by lists positions n node = option_map_or (list_held lists node.place.layer) (held_at positions n) []

pub held_behind : (lists : List (List (List Extended))) (positions : List ℕ) (n : ℕ) (node : Node) (position : ℕ)
    → held_at positions n ≡ Some position → list_held lists node.place.layer position ≡ told_by lists positions n node
held_behind lists positions n node position e = sym (ap (λ o. option_map_or (list_held lists node.place.layer) o []) e)

pub none_behind : (lists : List (List (List Extended))) (positions : List ℕ) (n : ℕ) (node : Node) → held_at positions n ≡ None
    → told_by lists positions n node ≡ []
none_behind lists positions n node e = ap (λ o. option_map_or (list_held lists node.place.layer) o []) e

-- one layer more is without lists
pub bare_more : (lists : List (List (List Extended))) (i : ℕ) (x : List (List Extended)) → AreBare (take i lists) → i < length lists
    → x ≡ get_or lists i x → ((position : ℕ) → slice_index_or x position [] ≡ []) → AreBare (take (i + 1) lists)
bare_more lists i x bare l there none = record {
  each = λ layer position. elim (cases_order layer i) [
    | inl e ↦ (
        let same : get_or (take (i + 1) lists) layer [] ≡ x =
        ap (λ k. get_or (take (i + 1) lists) k []) e ∙ get_or-take (i + 1) lists i [] (omega arith)
        ∙ get_or_default lists i [] x l ∙ sym there in
        ap (λ xs. slice_index_or xs position []) same ∙ none position)
    | inr (inl m) ↦ (
        let same : get_or (take (i + 1) lists) layer [] ≡ get_or (take i lists) layer [] =
        get_or-take (i + 1) lists layer [] (omega arith) ∙ sym (get_or-take i lists layer [] m) in
        ap (λ xs. slice_index_or xs position []) same ∙ bare.each layer position)
    | inr (inr m) ↦ (
        let k = length-take (i + 1) lists in
        ap (λ xs. slice_index_or xs position []) (get_or_past (take (i + 1) lists) layer [] (omega arith)))
  ];
}

-- none is looked at yet
pub none_bare : AreBare []
none_bare = record { each = λ layer position. refl }

-- what a search gives of a list it gives of an equal one
pub told : (o : Option (List Extended)) (a b : List Extended) → a ≡ b → MatchOption o (a ≡ []) (λ found. a ≡ found)
    → MatchOption o (b ≡ []) (λ found. b ≡ found)
told o a b e m = subst (λ l. MatchOption o (l ≡ []) (λ found. l ≡ found)) e m

any_map : {A B : Type 0} (f : B → Bool) (g : A → B) (xs : List A) → list_any f (map g xs) ≡ list_any (λ x. f (g x)) xs
any_map f g [] = refl
any_map f g (x ∷ xs) = ap (λ b. f (g x) || b) (any_map f g xs)

module _ (stack : Stacked) (held : List Node) (directories : HeldDirectories) (blocks : ℕ) (t : IsTable stack held directories blocks)
    (x : HeldXattrs) (of_stack : x.lists ≡ stack.lists) (are : AreXattrsOf stack.rows held x) where
  -- the nodes have the places of the listing
  places_are : map (λ (node : Node). placed node.place) held ≡ nodes stack.entries
  places_are = paired_is (λ (node : Node). placed node.place) (nodes stack.entries) held (record {
    level = t.are.level;
    each = λ k p node e i. (t.are.each k node p i e).place;
  })

  of_place : (node : Node) → list_of_node stack.rows x.lists node ≡ xattrs_of stack (placed node.place)
  of_place node = ap (λ l. list_in stack.rows l (placed node.place)) of_stack

  any_are : (f : List Extended → Bool) → list_any (λ node. f (list_of_node stack.rows x.lists node)) held
      ≡ list_any (λ p. f (xattrs_of stack p)) (nodes stack.entries)
  any_are f =
      ap (λ l. list_any (λ (node : Node). f (list_in stack.rows l (placed node.place))) held) of_stack
      ∙ sym (any_map (λ p. f (xattrs_of stack p)) (λ (node : Node). placed node.place) held)
      ∙ ap (list_any (λ p. f (xattrs_of stack p))) places_are

  pub some_has : x.some ≡ has_xattrs stack
  some_has = are.some_are ∙ any_are has_some

  pub acls_have : x.acls ≡ has_acls stack
  acls_have = are.acls_are ∙ any_are has_acl

  -- what is kept for a node is what its number has
  pub xattrs_are : (n : ℕ) (node : Node) → held_at held n ≡ Some node → xattrs_held x n node ≡ xattrs_at stack n
  xattrs_are n node e =
      let h = here stack held directories blocks t n node e in
      are.each n node e ∙ of_place node ∙ ap (xattrs_of stack) h.holds.place
      ∙ sym (ap (λ o. option_map_or (xattrs_of stack) o []) h.is)

  -- a number without a node has none
  pub xattrs_none : (n : ℕ) → held_at held n ≡ None → xattrs_at stack n ≡ []
  xattrs_none n e = ap (λ o. option_map_or (xattrs_of stack) o []) (nowhere stack held directories blocks t n e)
