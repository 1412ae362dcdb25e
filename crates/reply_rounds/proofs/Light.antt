-- A message moves at most 2^64 lookups for each of its bytes: `message_light`. A number in a message consists of bytes and is therefore
-- bounded (`op_modest`), and a request with such numbers moves no more (`moved_light`).
use Rattle.std.proofs.Common.{◌≡◌, sym, ap, subst, ℕ, zero, suc, ◌+◌, ◌-◌, ◌*◌, ◌/◌, ◌^◌, ◌<◌, ◌≤◌, ◌==◌, pos, neg_ℤ, List, [], ◌∷◌, length, map, drop, Bool, true, false, cond, Option, Some, None, refl, arith}
use Rattle.std.specs.Prelude.{filter, find, is_some, min, nat_le, nat_lt, slice_index, if◌then◌else◌}
use Rattle.std.specs.List.{AllByRecursion, cons_option, filter_map}
use Rattle.std.specs.Option.{option_map, option_map_or, option_to_list}
use Rattle.std.proofs.lemmas.Bool.{leb-true}
use Rattle.std.proofs.lemmas.Int.{ints}
use Rattle.std.proofs.lemmas.List.{get_or-drop, length-drop}
use Rattle.fuse_wire.specs.declared.forget.Forget.{Forget}
use Rattle.fuse_wire.specs.declared.limits.TheConstants.{HEADER_SIZE}
use Rattle.fuse_wire.specs.declared.opcode.TheConstants.{FORGET, GETATTR, OPEN, READ, INIT, OPENDIR, READDIR, BATCH_FORGET, READDIRPLUS, GETXATTR, LISTXATTR}
use Rattle.fuse_wire.specs.Requests.{Op, init, at_node, lookup, getattr, open_file, read, opendir, readdir, readdirplus, getxattr, listxattr, silent, forget, batch_forget, modify, other, malformed, asked, body_name, cut_at_zero, forgets_in, forgets_of, getxattr_of, op_of, served, sized, modifying, is_in}
use Rattle.fuse_wire.specs.Stream.{IsMessage, field}
use Rattle.fuse_wire.proofs.Sizes.{length-direntplus}
use Rattle.stack_model.specs.Listing.{Stacked}
use Rattle.stack_model.specs.Numbers.{Place, number, node_of}
use Rattle.stack_model.specs.Attributes.{mode_at, attr_of}
use Rattle.reply_model.specs.declared.moves.Move.{Move}
use Rattle.reply_model.specs.declared.session.Agreement.{Agreement}
use Rattle.reply_model.specs.declared.session.Session.{Session}
use Rattle.reply_model.specs.Sessions.{agreement_of}
use Rattle.reply_model.specs.Lookups.{looked_up}
use Rattle.reply_model.specs.Refusals.{refusal}
use Rattle.reply_model.specs.Rows.{Row, is_child, fitting, direntplus_of, rows_after}
use Rattle.reply_model.specs.Services.{give}
use Rattle.reply_model.specs.Moves.{take_back, gives_at, moved, moves}
use Rattle.reply_model.specs.Balances.{IsLight, weight}

-- all are bytes
abbrev pub AreBytes : List ℕ → Type 0
AreBytes m = (k : ℕ) → slice_index m k < 256

bytes_after : (n : ℕ) (m : List ℕ) → AreBytes m → AreBytes (drop n m)
bytes_after n m b k = subst (λ (v : ℕ). v < 256) (sym (get_or-drop n m k 0)) (b (n + k))

-- a field of eight bytes, and one of four
wide : (p : ℕ) (m : List ℕ) → AreBytes m → field 8 p m < 2 ^ 64
wide p m b =
    let at = bytes_after p m b in
    let b0 = at 0 in let b1 = at 1 in let b2 = at 2 in let b3 = at 3 in
    let b4 = at 4 in let b5 = at 5 in let b6 = at 6 in let b7 = at 7 in
    omega arith

narrow : (p : ℕ) (m : List ℕ) → AreBytes m → field 4 p m < 2 ^ 64
narrow p m b =
    let at = bytes_after p m b in
    let b0 = at 0 in let b1 = at 1 in let b2 = at 2 in let b3 = at 3 in
    omega arith

-- each item forgets no more than 64 bits say
abbrev AreSmall : List Forget → Type 0
AreSmall [] = Unit {0}
AreSmall (f ∷ items) = (f.nlookup < 2 ^ 64) × AreSmall items

-- the numbers in a request have 64 bits, and its items are no more than this many bytes
abbrev IsModest : ℕ → Op → Type 0
IsModest bytes (silent (forget nlookup)) = nlookup < 2 ^ 64
IsModest bytes (silent (batch_forget items)) = AreSmall items × (length items ≤ bytes)
IsModest bytes (at_node (readdirplus offset size)) = size < 2 ^ 64
IsModest bytes _ = Unit {0}

items_small : (n : ℕ) (bytes : List ℕ) → AreBytes bytes → AreSmall (forgets_in n bytes)
items_small zero bytes b = tt
items_small (suc n) bytes b = (wide 8 bytes b, items_small n (drop 16 bytes) (bytes_after 16 bytes b))

items_counted : (n : ℕ) (bytes : List ℕ) → length (forgets_in n bytes) ≡ n
items_counted zero bytes = refl
items_counted (suc n) bytes = ap suc (items_counted n (drop 16 bytes))

module _ (body : List ℕ) (b : AreBytes body) where
  abbrev Modest : Op → Type 0
  Modest = IsModest (length body)

  name_modest : (o : Option (List ℕ)) (n : ℕ) → Modest (option_map_or (λ name. at_node (lookup name)) o (malformed n))
  name_modest None n = tt
  name_modest (Some name) n = tt

  sized_modest : (opcode n : ℕ) (op : List ℕ → Op) → Modest (op body) → Modest (sized opcode n op body)
  sized_modest opcode n op m = go (nat_lt (length body) n)
    where
      go : (short : Bool) → Modest (cond short (malformed opcode) (op body))
      go true = tt
      go false = m

  batch_modest : Modest (silent (batch_forget (forgets_of body)))
  unfolding forgets_of
  batch_modest =
      let n = min (field 4 0 body) (length (drop 8 body) / 16) in
      let c = items_counted n (drop 8 body) in
      let l = length-drop 8 body in
      (items_small n (drop 8 body) (bytes_after 8 body b), omega arith)

  found_modest : (opcode : ℕ) (rows : List (ℕ × (List ℕ → Op))) → AllByRecursion (λ row. Modest (row.1 body)) rows
      → Modest (option_map_or (λ row. row.1 body) (find (λ row. opcode == row.0) rows) other)
  found_modest opcode [] all = tt
  found_modest opcode (row ∷ rows) all = go (opcode == row.0) (found_modest opcode rows all.1)
    where
      go : (is : Bool)
          → Modest (option_map_or (λ (row : ℕ × (List ℕ → Op)). row.1 body) (find (λ row. opcode == row.0) rows) other)
          → Modest (option_map_or (λ (row : ℕ × (List ℕ → Op)). row.1 body) (cond is (Some row) (find (λ row. opcode == row.0) rows)) other)
      go true rest = all.0
      go false rest = rest

  xattr_modest : (o : Option (List ℕ)) → Modest (option_map_or (λ name. at_node (getxattr (field 4 0 body) name)) o (malformed GETXATTR))
  xattr_modest None = tt
  xattr_modest (Some name) = tt

  served_modest : AllByRecursion (λ row. Modest (row.1 body)) served
  served_modest = (
    name_modest _ _,
    (
      sized_modest FORGET 8 (λ body. silent (forget (field 8 0 body))) (wide 0 body b),
      (
        sized_modest GETATTR 16 (λ _. at_node getattr) tt,
        (
          tt,
          (
            sized_modest OPEN 8 (λ body. at_node (open_file (field 4 0 body))) tt,
            (
              sized_modest READ 40 (λ body. at_node (read (field 8 8 body) (field 4 16 body))) tt,
              (
                tt,
                (
                  tt,
                  (
                    tt,
                    (
                      sized_modest GETXATTR 8 getxattr_of (xattr_modest (body_name (cut_at_zero (drop 8 body)))),
                      (
                        sized_modest LISTXATTR 8 (λ body. at_node (listxattr (field 4 0 body))) tt,
                        (
                          tt,
                          (
                            sized_modest INIT 16 (λ body. init (field 4 0 body) (field 4 4 body) (field 4 8 body) (field 4 12 body)) tt,
                            (
                              sized_modest OPENDIR 8 (λ _. at_node opendir) tt,
                              (
                                sized_modest READDIR 40 (λ body. at_node (readdir (field 8 8 body) (field 4 16 body))) tt,
                                (
                                  tt,
                                  (
                                    tt,
                                    (
                                      tt,
                                      (
                                        tt,
                                        (
                                          sized_modest BATCH_FORGET 8 (λ body. silent (batch_forget (forgets_of body))) batch_modest,
                                          (
                                            sized_modest READDIRPLUS 40 (λ body. at_node (readdirplus (field 8 8 body) (field 4 16 body)))
                                                (narrow 16 body b),
                                            tt,
                                          ),
                                        ),
                                      ),
                                    ),
                                  ),
                                ),
                              ),
                            ),
                          ),
                        ),
                      ),
                    ),
                  ),
                ),
              ),
            ),
          ),
        ),
      ),
    ),
  )

  op_modest : (opcode : ℕ) → Modest (op_of opcode body)
  unfolding op_of
  op_modest opcode = go (is_in opcode modifying)
    where
      go : (is : Bool) → Modest (cond is modify (option_map_or (λ row. row.1 body) (find (λ row. opcode == row.0) served) other))
      go true = tt
      go false = found_modest opcode served served_modest

-- as many rows as are answered are no more than the size
pub fitting_few : (form : Row → List ℕ) → ((r : Row) → 1 ≤ length (form r)) → (room : ℕ) (rows : List Row) → length (fitting form room rows)
    ≤ room
fitting_few form some room [] = omega arith
fitting_few form some room (r ∷ rows) = go (nat_le (length (form r)) room) refl (fitting_few form some (room - length (form r)) rows)
  where
    go : (fits : Bool) → nat_le (length (form r)) room ≡ fits → length (fitting form (room - length (form r)) rows) ≤ room - length (form r)
        → length (cond fits (r ∷ fitting form (room - length (form r)) rows) []) ≤ room
    go true e rest = let one = some r in let fits = leb-true (length (form r)) room e in omega arith
    go false e rest = omega arith

module _ (stack : Stacked) where
  weight_given : (rows : List Row) → weight (map (λ (r : Row). give stack r.1.place) (filter is_child rows)) ≤ length rows
  weight_given [] = omega arith
  weight_given (r ∷ rows) = go (is_child r) (weight_given rows)
    where
      go : (child : Bool) → weight (map (λ (r : Row). give stack r.1.place) (filter is_child rows)) ≤ length rows
          → weight (map (λ (r : Row). give stack r.1.place) (cond child (r ∷ filter is_child rows) (filter is_child rows)))
          ≤ suc (length rows)
      go true l = omega (arith, ints)
      go false l = omega arith

  -- a row of READDIRPLUS has at least one byte
  pub row_some : (r : Row) → 1 ≤ length (direntplus_of stack r)
  unfolding direntplus_of
  row_some r =
      let entry = if is_child r then Some (attr_of stack r.1.place) else None in
      let l = length-direntplus entry (number stack.entries r.1.place) r.0 (mode_at stack r.1.place / 2 ^ 12) r.1.name in
      omega arith

  weight_taken : (f : Forget) (rest : List Move) → f.nlookup < 2 ^ 64 → weight (cons_option (take_back stack f) rest) ≤ 2 ^ 64
      + weight rest
  weight_taken f rest small = go (node_of stack.entries f.node)
    where
      go : (o : Option Place) → weight (cons_option (option_map
          (λ p. let m : Move = record { node = f.node; amount = neg_ℤ (pos f.nlookup) } in m) o) rest) ≤ 2 ^
          64 + weight rest
      go None = omega arith
      go (Some p) = omega (arith, ints)

  weight_items : (items : List Forget) → AreSmall items → weight (filter_map (take_back stack) items) ≤ 2 ^ 64 * length items
  weight_items [] small = omega arith
  weight_items (f ∷ items) small =
      let one = weight_taken f (filter_map (take_back stack) items) small.0 in
      let rest = weight_items items small.1 in
      omega arith

  module _ (bytes : ℕ) (some : 1 ≤ bytes) (agreed : Agreement) (node : ℕ) where
    -- if each node gives nothing, none does
    nothing_given : (o : Option Place) → weight (option_map_or (λ (p : Place). let none : List Move = [] in none) o []) ≤ 2 ^ 64 * bytes
    nothing_given None = omega arith
    nothing_given (Some p) = omega arith

    lookup_given : (name : List ℕ) (o : Option Place) → weight (option_map_or (gives_at stack agreed (lookup name)) o [])
        ≤ 2 ^ 64 * bytes
    lookup_given name None = omega arith
    lookup_given name (Some p) = go (looked_up stack.entries agreed.export p name)
      where
        go : (o : Option Place) → weight (map (give stack) (option_to_list o)) ≤ 2 ^ 64 * bytes
        go None = omega arith
        go (Some c) = omega (arith, ints)

    rows_given : (offset size : ℕ) → size < 2 ^ 64 → (o : Option Place)
        → weight (option_map_or (gives_at stack agreed (readdirplus offset size)) o [])
        ≤ 2 ^ 64 * bytes
    rows_given offset size small None = omega arith
    rows_given offset size small (Some p) =
        let rows = fitting (direntplus_of stack) size (rows_after stack.entries p offset) in
        let w = weight_given rows in
        let f = fitting_few (direntplus_of stack) row_some size (rows_after stack.entries p offset) in
        omega arith

    moved_light : (op : Op) → IsModest bytes op → weight (moved stack agreed node op) ≤ 2 ^ 64 * bytes
    moved_light (at_node (lookup name)) m = lookup_given name (node_of stack.entries node)
    moved_light (at_node (readdirplus offset size)) m = rows_given offset size m (node_of stack.entries node)
    moved_light (at_node _) m = nothing_given (node_of stack.entries node)
    moved_light (silent (forget nlookup)) m = let w = weight_taken (record { node = node; nlookup = nlookup }) [] m in omega arith
    moved_light (silent (batch_forget items)) m = let w = weight_items items m.0 in let n = m.1 in omega arith
    moved_light _ m = omega arith

  -- what a message moves is light
  pub message_light : (s : Session) (m : List ℕ) → IsMessage m → AreBytes m → IsLight (moves stack s (asked m)) (length m)
  message_light s m is b = go (is_some (refusal stack s (asked m).node (asked m).op))
    where
      long : HEADER_SIZE ≤ length m
      long = is.good.0

      body : List ℕ
      body = drop HEADER_SIZE m

      modest : IsModest (length body) (asked m).op
      modest = op_modest body (bytes_after HEADER_SIZE m b) (field 4 4 m)

      go : (refused : Bool) → weight (cond refused [] (moved stack (agreement_of s) (asked m).node (asked m).op))
          ≤ 2 ^ 64 * length m
      go true = omega arith
      go false = moved_light (length m) (omega arith) (agreement_of s) (asked m).node (asked m).op (larger (asked m).op modest)
        where
          larger : (op : Op) → IsModest (length body) op → IsModest (length m) op
          larger (silent (batch_forget items)) h = (h.0, let l = length-drop HEADER_SIZE m in let n = h.1 in omega arith)
          larger (silent (forget nlookup)) h = h
          larger (at_node (readdirplus offset size)) h = h
          larger _ h = tt
