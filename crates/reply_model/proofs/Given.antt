-- The lookups that requests give, beside their answers. LOOKUP and READDIRPLUS give those of their answers (`lookup_gives`,
-- `readdirplus_gives`); all requests except these and the two that forget move nothing (`others_move_nothing`), and none does in a fresh
-- session.
use Rattle.std.proofs.Common.{◌≡◌, ◌∙◌, ap, ℕ, ◌⊎◌, inl, inr, List, [], ◌∷◌, ◌++◌, Bool, true, false, Option, Some, None, cond, refl}
use Rattle.std.specs.Prelude.{is_some}
use Rattle.std.specs.Option.{option_map_or}
use Rattle.fuse_wire.specs.declared.errno.Errno.{Errno}
use Rattle.fuse_wire.specs.Requests.{Op, Asked, at_node, lookup, readdirplus, done, destroy, silent, forget, batch_forget}
use Rattle.stack_model.specs.Listing.{Stacked}
use Rattle.stack_model.specs.Numbers.{Place, node_of}
use Rattle.reply_model.specs.declared.session.Agreement.{Agreement}
use Rattle.reply_model.specs.declared.session.Session.{Session}
use Rattle.reply_model.specs.declared.moves.Move.{Move}
use Rattle.reply_model.specs.Sessions.{is_fresh, agreement_of}
use Rattle.reply_model.specs.Lookups.{looked_up}
use Rattle.reply_model.specs.Rows.{rows_answered, direntplus_of}
use Rattle.reply_model.specs.Refusals.{refusal}
use Rattle.reply_model.specs.Moves.{moved, moves}
use Rattle.reply_model.specs.Laws.{IsEntry, IsNoEntry, GivesEntry, GivesRows, is_moving}
use Rattle.reply_model.specs.Moves.{balance}
use Rattle.reply_model.specs.Streams.{session_at, moves_by}
use Rattle.reply_model.proofs.Balances.{moves-append}
use Rattle.std.proofs.lemmas.List.{append-nil}
use Rattle.reply_model.proofs.Refused.{node_found}

module _ (stack : Stacked) where
  abbrev looking : ℕ → ℕ → List ℕ → Asked
  looking unique node name = record { unique = unique; node = node; op = at_node (lookup name) }

  abbrev listing : ℕ → ℕ → ℕ → ℕ → Asked
  listing unique node offset size = record { unique = unique; node = node; op = at_node (readdirplus offset size) }

  -- a LOOKUP gives one lookup of the node whose entry is in its reply, or none
  pub lookup_gives : (s : Session) (unique node : ℕ) (name : List ℕ) → GivesEntry stack s (looking unique node name)
  lookup_gives s unique node name = go (refusal stack s node (at_node (lookup name))) refl
    where
      found : refusal stack s node (at_node (lookup name)) ≡ None → (p : Place) → node_of stack.entries node ≡ Some p
          → (o : Option Place) → looked_up stack.entries (agreement_of s).export p name ≡ o
          → IsNoEntry stack s (looking unique node name) ⊎ IsEntry stack s (looking unique node name)
      found e p is None n = inl (rw (e, is, n) refl, rw (e, is, n) refl)
      found e p is (Some c) n = inr (c, rw (e, is, n) refl, rw (e, is, n) refl)

      go : (o : Option Errno) → refusal stack s node (at_node (lookup name)) ≡ o
          → GivesEntry stack s (looking unique node name)
      go (Some errno) e = inl ((errno, rw (e) refl), rw (e) refl)
      go None e =
          let f = node_found stack s node (lookup name) e in
          inr (found e f.0 f.1 (looked_up stack.entries (agreement_of s).export f.0 name) refl)

  -- a READDIRPLUS gives one lookup of the node of each row in its reply except . and .., or none
  pub readdirplus_gives : (s : Session) (unique node offset size : ℕ) → GivesRows stack s (listing unique node offset size)
  readdirplus_gives s unique node offset size = go (refusal stack s node (at_node (readdirplus offset size))) refl
    where
      go : (o : Option Errno) → refusal stack s node (at_node (readdirplus offset size)) ≡ o
          → GivesRows stack s (listing unique node offset size)
      go (Some errno) e = inl ((errno, rw (e) refl), rw (e) refl)
      go None e =
          let f = node_found stack s node (readdirplus offset size) e in
          inr (rows_answered stack.entries (direntplus_of stack) f.0 offset size, rw (e, f.1) refl, rw (e, f.1) refl)

  abbrev no_moves : List Move
  no_moves = []

  -- what moves nothing at any place moves nothing
  nowhere : (o : Option Place) → option_map_or (λ (p : Place). no_moves) o no_moves ≡ no_moves
  nowhere None = refl
  nowhere (Some p) = refl

  unless : (b : Bool) (ms : List Move) → ms ≡ [] → cond b [] ms ≡ []
  unless true ms e = refl
  unless false ms e = e

  moved_nothing : (x : Agreement) (node : ℕ) (op : Op) → is_moving op ≡ false → moved stack x node op ≡ []
  moved_nothing x node (at_node (lookup name)) e = absurd (cc)
  moved_nothing x node (at_node (readdirplus offset size)) e = absurd (cc)
  moved_nothing x node (at_node _) e = nowhere (node_of stack.entries node)
  moved_nothing x node (silent (forget nlookup)) e = absurd (cc)
  moved_nothing x node (silent (batch_forget items)) e = absurd (cc)
  moved_nothing x node _ e = refl

  -- requests but LOOKUP, READDIRPLUS, FORGET and BATCH_FORGET move nothing
  pub others_move_nothing : (s : Session) (q : Asked) → is_moving q.op ≡ false → moves stack s q ≡ []
  others_move_nothing s q e = unless (is_some (refusal stack s q.node q.op))
      (moved stack (agreement_of s) q.node q.op) (moved_nothing (agreement_of s) q.node q.op e)

  -- nor does any request in a fresh session
  fresh_op : (s : Session) (unique node : ℕ) (op : Op) → is_fresh s ≡ true
      → moves stack s (record { unique = unique; node = node; op = op }) ≡ []
  fresh_op s unique node (at_node op) e = rw e refl
  fresh_op s unique node (silent op) e = rw e refl
  fresh_op s unique node op e = others_move_nothing s (record { unique = unique; node = node; op = op }) refl

  -- no request moves anything in a fresh session
  pub fresh_moves_nothing : (s : Session) (q : Asked) → is_fresh s ≡ true → moves stack s q ≡ []
  fresh_moves_nothing s q e = fresh_op s q.unique q.node q.op e

  -- one more request that moves nothing leaves all balances unchanged
  pub balances_stay : (s : Session) (qs : List Asked) (q : Asked) (node : ℕ) → is_moving q.op ≡ false
      → balance node (moves_by (moves stack) s (qs ++ q ∷ []))
      ≡ balance node (moves_by (moves stack) s qs)
  balances_stay s qs q node e =
      let moved_by = moves_by (moves stack) s qs in
      ap (balance node) (moves-append (moves stack) s qs (q ∷ []) ∙ rw (others_move_nothing (session_at s qs) q e)
      (append-nil moved_by))

  -- a DESTROY after other requests leaves all balances unchanged
  pub destroy_leaves : (s : Session) (qs : List Asked) (unique node n : ℕ)
      → balance n (moves_by (moves stack) s
      (qs ++ record { unique = unique; node = node; op = done destroy } ∷ [])) ≡ balance n
      (moves_by (moves stack) s qs)
  destroy_leaves s qs unique node n = balances_stay s qs (record { unique = unique; node = node; op = done destroy }) n refl

-- what LOOKUP and READDIRPLUS give, and which requests give nothing
pub ruleset given = (lookup_gives, readdirplus_gives, others_move_nothing, fresh_moves_nothing)
