-- Requests for extended attributes: whether they get ENOSYS depends only on the stack (served), and no reply is longer than the requested
-- size (value_within, names_within).
use Rattle.std.proofs.Common.{◌≡◌, ◌≢◌, ◌∙◌, sym, ap, ℕ, ◌+◌, ◌≤◌, List, [], ◌∷◌, length, Bool, true, false, Option, Some, None, cond, refl, arith}
use Rattle.std.specs.Prelude.{◌↔◌, not, ◌&&◌, ◌||◌, ◌==◌}
use Rattle.std.specs.Option.{option_map_or}
use Rattle.std.proofs.lemmas.Bool.{eqb-true}
use Rattle.romfs_format.specs.Extended.{is_acl_name, value_of}
use Rattle.fuse_wire.specs.declared.errno.Errno.{Errno}
use Rattle.fuse_wire.specs.declared.errno.Errno.TheVariants.{ERANGE, ENODATA, EOPNOTSUPP, ENOSYS, ESTALE}
use Rattle.fuse_wire.specs.declared.limits.TheConstants.{OUT_HEADER_SIZE}
use Rattle.fuse_wire.specs.Requests.{NodeOp, Op, Asked, at_node, getxattr, listxattr, malformed}
use Rattle.fuse_wire.specs.Replies.{reply_with, error_reply}
use Rattle.fuse_wire.proofs.Sizes.{length-error_reply, length-reply_with}
use Rattle.stack_model.specs.Listing.{Stacked}
use Rattle.stack_model.specs.Numbers.{Place, node_of}
use Rattle.stack_model.specs.Attributes.{has_xattrs, xattrs_of}
use Rattle.reply_model.specs.declared.session.Agreement.{Agreement}
use Rattle.reply_model.specs.declared.session.Session.{Session}
use Rattle.reply_model.specs.Sessions.{is_fresh, agreement_of}
use Rattle.reply_model.specs.Xattrs.{refused_size}
use Rattle.reply_model.specs.Services.{serves_acls, names_told}
use Rattle.reply_model.specs.Refusals.{first_refusal, asks_xattrs, is_init, refused_at, refused_by_op, refusal}
use Rattle.reply_model.specs.Replies.{answer_at, answer, reply}
use Rattle.reply_model.proofs.Refused.{node_found, not_by_op}
use Rattle.reply_model.proofs.Xattrs.{sized_fits, value_fits}

-- such a request is not INIT
pub no_init : (op : Op) → asks_xattrs op ≡ true → is_init op ≡ false
no_init (at_node (getxattr size name)) e = refl
no_init (at_node (listxattr size)) e = refl
no_init (malformed opcode) e = go (opcode == 22) (opcode == 23) refl refl e
  where
    go : (a b : Bool) → (opcode == 22) ≡ a → (opcode == 23) ≡ b → (a || (b || false)) ≡ true → (opcode == 26) ≡ false
    go true b f g h = let n : opcode ≡ 22 = eqb-true _ _ f in rw n refl
    go false true f g h = let n : opcode ≡ 23 = eqb-true _ _ g in rw n refl
    go false false f g h = absurd (cc)
no_init _ e = absurd (cc)

-- no size is refused this way
size_else : (size : ℕ) (bytes : List ℕ) → refused_size size bytes ≢ Some ENOSYS
size_else size bytes e = go (not (size == 0) && _) e
  where
    go : (b : Bool) → cond b (Some ERANGE) None ≢ Some ENOSYS
    go true f = cc
    go false f = cc

-- and no name
xattr_else : (size : ℕ) (name : List ℕ) (o : Option (List ℕ)) (b : Bool)
    → cond b (Some EOPNOTSUPP) (option_map_or (refused_size size) o (Some ENODATA)) ≢ Some ENOSYS
xattr_else size name o true e = cc
xattr_else size name None false e = cc
xattr_else size name (Some v) false e = size_else size v e

-- one refusal is the first
pub alone : (o : Option Errno) → first_refusal (o ∷ []) ≡ o
alone None = refl
alone (Some errno) = refl

module _ (stack : Stacked) where
  -- if some node has an attribute, no such request is refused this way
  else_served : (x : Agreement) (node : ℕ) (op : Op) → asks_xattrs op ≡ true → refused_by_op stack x node op ≢ Some ENOSYS
  else_served x node (at_node (getxattr size name)) e f = go (node_of stack.entries node) f
    where
      go : (o : Option Place) → option_map_or (refused_at stack x (getxattr size name)) o (Some ESTALE) ≢ Some ENOSYS
      go None g = cc
      go (Some p) g =
          xattr_else size name (value_of name (xattrs_of stack p)) (is_acl_name name && not (serves_acls stack x)) (sym (alone _) ∙ g)
  else_served x node (at_node (listxattr size)) e f = go (node_of stack.entries node) f
    where
      go : (o : Option Place) → option_map_or (refused_at stack x (listxattr size)) o (Some ESTALE) ≢ Some ENOSYS
      go None g = cc
      go (Some p) g = size_else size (names_told stack x p) (sym (alone _) ∙ g)
  else_served x node (malformed opcode) e f = cc
  else_served x node _ e f = absurd (cc)

  -- in a session that has begun they get ENOSYS exactly if no node has an attribute
  pub served : (s : Session) (node : ℕ) (op : Op) → is_fresh s ≡ false → asks_xattrs op ≡ true
      → (refusal stack s node op ≡ Some ENOSYS) ↔ (has_xattrs stack ≡ false)
  served s node op f a = go (has_xattrs stack) refl
    where
      go : (b : Bool) → has_xattrs stack ≡ b → (refusal stack s node op ≡ Some ENOSYS) ↔ (b ≡ false)
      go true h = (
        λ r. absurd (else_served (agreement_of s) node op a (sym (alone _) ∙ (rw (f, no_init op a, a, h) at r))),
        λ e. absurd (cc),
      )
      go false h = (λ r. refl, λ e. rw (f, no_init op a, a, h) refl)

  abbrev asking : ℕ → ℕ → NodeOp → Asked
  asking unique node op = record { unique = unique; node = node; op = at_node op }

  -- a reply is no longer than a size, if the answer is not, provided that nothing refuses the request
  within : (s : Session) (unique node size : ℕ) (op : NodeOp)
      → ((p : Place) → refused_at stack (agreement_of s) op p ≡ None → length (answer_at stack (agreement_of s) op p) ≤ size)
      → length (reply stack s (asking unique node op)) ≤ OUT_HEADER_SIZE + size
  within s unique node size op h = go (refusal stack s node (at_node op)) refl
    where
      go : (o : Option Errno) → refusal stack s node (at_node op) ≡ o
          → length (option_map_or (error_reply unique) o (reply_with unique (answer stack (agreement_of s) node (at_node op))))
          ≤ OUT_HEADER_SIZE + size
      go (Some errno) e = let l = length-error_reply unique errno in omega arith
      go None e =
          let found = node_found stack s node op e in
          let r = not_by_op stack s node (at_node op) e in
          let here = h found.0 (ap (λ o. option_map_or (refused_at stack (agreement_of s) op) o (Some ESTALE)) (sym found.1) ∙ r) in
          let is : answer stack (agreement_of s) node (at_node op) ≡ answer_at stack (agreement_of s) op found.0 =
          ap (λ o. option_map_or (answer_at stack (agreement_of s) op) o []) found.1 in
          let l = length-reply_with unique (answer stack (agreement_of s) node (at_node op)) in
          let same = ap length is in
          omega arith

  -- a value
  pub value_within : (s : Session) (unique node size : ℕ) (name : List ℕ) → size ≢ 0
      → length (reply stack s (asking unique node (getxattr size name))) ≤ OUT_HEADER_SIZE + size
  value_within s unique node size name n = within s unique node size (getxattr size name)
      (λ p r. value_fits (serves_acls stack (agreement_of s)) size name (xattrs_of stack p) n (sym (alone _) ∙ r))

  -- names
  pub names_within : (s : Session) (unique node size : ℕ) → size ≢ 0
      → length (reply stack s (asking unique node (listxattr size))) ≤ OUT_HEADER_SIZE + size
  names_within s unique node size n = within s unique node size (listxattr size)
      (λ p r. sized_fits size (names_told stack (agreement_of s) p) n (sym (alone _) ∙ r))

-- what holds of these requests
pub ruleset xattrs = (served, value_within, names_within)
