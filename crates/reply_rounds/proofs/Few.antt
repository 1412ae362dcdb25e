-- A request moves no more lookups than 32 bits count: `few_moves`. Of its kinds three may move several: a READDIRPLUS for more rows than a
-- reply may have is refused (`rows_few`), and a BATCH_FORGET has no more items than a message has room for (`few_items`).
use Rattle.std.proofs.Common.{◌≡◌, ℕ, suc, ◌/◌, ◌^◌, ◌≤◌, List, [], ◌∷◌, length, map, Bool, true, false, cond, Option, Some, None, refl, arith}
use Rattle.std.specs.Prelude.{filter, is_some, nat_lt, ◌||◌}
use Rattle.std.specs.List.{cons_option, filter_map}
use Rattle.std.specs.Option.{option_map_or, option_to_list}
use Rattle.std.proofs.lemmas.Bool.{ltb-false}
use Rattle.fuse_wire.specs.declared.errno.Errno.{Errno}
use Rattle.fuse_wire.specs.declared.errno.Errno.TheVariants.{EINVAL, ENOSYS, ESTALE}
use Rattle.fuse_wire.specs.declared.forget.Forget.{Forget}
use Rattle.fuse_wire.specs.declared.limits.TheConstants.{MAX_DATA_SIZE, MAX_FORGETS}
use Rattle.fuse_wire.specs.declared.request.Op.{Op as Read}
use Rattle.fuse_wire.specs.declared.request.Op.TheVariants.{BatchForget}
use Rattle.fuse_wire.specs.declared.request.Request.{Request}
use Rattle.fuse_wire.specs.Reads.{asked_of, op_said}
use Rattle.fuse_wire.specs.Requests.{NodeOp, Op, at_node, lookup, readdirplus, silent, forget, batch_forget}
use Rattle.fuse_wire.proofs.Items.{counted}
use Rattle.stack_model.specs.Listing.{Stacked}
use Rattle.stack_model.specs.Numbers.{Place, node_of}
use Rattle.reply_model.specs.declared.moves.Move.{Move}
use Rattle.reply_model.specs.declared.session.Agreement.{Agreement}
use Rattle.reply_model.specs.declared.session.Session.{Session}
use Rattle.reply_model.specs.Sessions.{agreement_of, is_fresh}
use Rattle.reply_model.specs.Lookups.{looked_up}
use Rattle.reply_model.specs.Refusals.{first_refusal, is_unserved, refusal_in, refused_at, refused_by_itself, refused_by_op, refused_by_session}
use Rattle.reply_model.specs.Rows.{Row, direntplus_of, fitting, is_child, is_too_small, rows_after}
use Rattle.reply_model.specs.Moves.{gives_at, moved, moves, take_back}
use Rattle.reply_model.specs.Services.{give, refuse_if, unless_directory}
use Rattle.stack_model.specs.Attributes.{kind_at}
use Rattle.reply_rounds.proofs.Light.{fitting_few, row_some}

few_kept : {X Y : Type 0} (f : X → Option Y) (xs : List X) → length (filter_map f xs) ≤ length xs
few_kept f [] = omega arith
few_kept {Y = Y} f (x ∷ xs) = go (f x) (few_kept f xs)
  where
    go : (o : Option Y) → length (filter_map f xs) ≤ length xs → length (cons_option o (filter_map f xs)) ≤ suc (length xs)
    go None h = omega arith
    go (Some y) h = omega arith

few_mapped : {X Y : Type 0} (p : X → Bool) (f : X → Y) (xs : List X) → length (map f (filter p xs)) ≤ length xs
few_mapped p f [] = omega arith
few_mapped p f (x ∷ xs) = go (p x) (few_mapped p f xs)
  where
    go : (is : Bool) → length (map f (filter p xs)) ≤ length xs → length (map f (cond is (x ∷ filter p xs) (filter p xs))) ≤ suc (length xs)
    go true h = omega arith
    go false h = omega arith

-- these are few, or a request that would move them is refused
abbrev FewUnless : Option Errno → List Move → Type 0
FewUnless refusal ms = length (cond (is_some refusal) [] ms) ≤ 2 ^ 32

few_anyway : (refusal : Option Errno) (ms : List Move) → length ms ≤ 2 ^ 32 → FewUnless refusal ms
few_anyway None ms few = few
few_anyway (Some errno) ms few = omega arith

-- a refusal before another only makes them fewer
few_behind : (first second : Option Errno) (ms : List Move) → FewUnless second ms → FewUnless (first_refusal (first ∷ second ∷ [])) ms
few_behind (Some errno) second ms few = omega arith
few_behind None (Some errno) ms few = omega arith
few_behind None None ms few = few

few_served : (wrong : Bool) (errno : Errno) (refusal : Option Errno) (ms : List Move) → FewUnless refusal ms
    → FewUnless (cond wrong (Some errno) refusal) ms
few_served true errno refusal ms few = omega arith
few_served false errno refusal ms few = few

-- a request has no more items than a message has room for
abbrev HasFewItems : Op → Type 0
HasFewItems (silent (batch_forget items)) = length items ≤ MAX_FORGETS
HasFewItems _ = Unit {0}

few_items : (op : Read) → HasFewItems (op_said op)
few_items (BatchForget items) = let n = counted (length items.bytes.now / 16) items.bytes.now in let few = items.few in omega arith
few_items _ = tt

module _ (stack : Stacked) (agreed : Agreement) where
  lookup_few : (name : List ℕ) (p : Place) → length (gives_at stack agreed (lookup name) p) ≤ 2 ^ 32
  lookup_few name p = go (looked_up stack.entries agreed.export p name)
    where
      go : (o : Option Place) → length (map (give stack) (option_to_list o)) ≤ 2 ^ 32
      go None = omega arith
      go (Some c) = omega arith

  rows_few : (offset size : ℕ) (p : Place) → FewUnless (refused_at stack agreed (readdirplus offset size) p)
      (gives_at stack agreed (readdirplus offset size) p)
  rows_few offset size p = few_behind (unless_directory (kind_at stack.layers p)) (refuse_if (nat_lt MAX_DATA_SIZE size || small) EINVAL) given
      (go (nat_lt MAX_DATA_SIZE size) refl)
    where
      small : Bool
      small = is_too_small (direntplus_of stack) size (rows_after stack.entries p offset)

      rows : List Row
      rows = fitting (direntplus_of stack) size (rows_after stack.entries p offset)

      given : List Move
      given = map (λ (r : Row). give stack r.1.place) (filter is_child rows)

      go : (large : Bool) → nat_lt MAX_DATA_SIZE size ≡ large → FewUnless (refuse_if (large || small) EINVAL) given
      go true is = omega arith
      go false is =
          let le = ltb-false MAX_DATA_SIZE size is in
          let w = few_mapped is_child (λ (r : Row). give stack r.1.place) rows in
          let f = fitting_few (direntplus_of stack) (row_some stack) size (rows_after stack.entries p offset) in
          few_anyway (refuse_if small EINVAL) given (omega arith)

  given_few : (op : NodeOp) (p : Place) → FewUnless (refused_at stack agreed op p) (gives_at stack agreed op p)
  given_few (lookup name) p = few_anyway (refused_at stack agreed (lookup name) p) _ (lookup_few name p)
  given_few (readdirplus offset size) p = rows_few offset size p
  given_few op p = few_anyway (refused_at stack agreed op p) [] (omega arith)

  node_few : (op : NodeOp) (o : Option Place) → FewUnless (option_map_or (refused_at stack agreed op) o (Some ESTALE))
      (option_map_or (gives_at stack agreed op) o [])
  node_few op None = omega arith
  node_few op (Some p) = given_few op p

  few_moved : (fresh : Bool) (node : ℕ) (op : Op) → HasFewItems op
      → FewUnless (refusal_in stack fresh agreed node op) (moved stack agreed node op)
  few_moved fresh node (at_node op) few =
      few_behind (refused_by_session fresh (at_node op)) (refused_by_itself stack agreed node (at_node op)) _
      (few_served (is_unserved stack (at_node op)) ENOSYS (refused_by_op stack agreed node (at_node op)) _
      (node_few op (node_of stack.entries node)))
  few_moved fresh node (silent (forget nlookup)) few =
      let one : Forget = record { node = node; nlookup = nlookup } in
      let f = few_kept (take_back stack) (one ∷ []) in
      few_anyway (refusal_in stack fresh agreed node (silent (forget nlookup))) _ (omega arith)
  few_moved fresh node (silent (batch_forget items)) few =
      let f = few_kept (take_back stack) items in
      few_anyway (refusal_in stack fresh agreed node (silent (batch_forget items))) _ (omega arith)
  few_moved fresh node op few = few_anyway (refusal_in stack fresh agreed node op) [] (omega arith)

-- a request makes at most 2^32 moves
pub few_moves : (stack : Stacked) (s : Session) (r : Request) → length (moves stack s (asked_of r)) ≤ 2 ^ 32
few_moves stack s r = few_moved stack (agreement_of s) (is_fresh s) r.node (op_said r.op) (few_items r.op)
