-- What is known if nothing refuses a request: it is not refused by its operation (`not_by_op`), and if it is about a node, that number is
-- in use (`node_found`). Before these, lists of refusals, none of which applies.
use Rattle.std.proofs.Common.{◌≡◌, ℕ, List, [], ◌∷◌, Bool, true, false, Option, Some, None, cond, refl}
use Rattle.std.specs.Option.{option_map_or}
use Rattle.fuse_wire.specs.declared.errno.Errno.{Errno}
use Rattle.fuse_wire.specs.declared.errno.Errno.TheVariants.{ENOSYS, ESTALE}
use Rattle.fuse_wire.specs.Requests.{NodeOp, Op, at_node}
use Rattle.stack_model.specs.Listing.{Stacked}
use Rattle.stack_model.specs.Numbers.{Place, node_of}
use Rattle.reply_model.specs.declared.session.Agreement.{Agreement}
use Rattle.reply_model.specs.declared.session.Session.{Session}
use Rattle.reply_model.specs.Sessions.{is_fresh, agreement_of}
use Rattle.reply_model.specs.Services.{refuse_if}
use Rattle.reply_model.specs.Refusals.{first_refusal, refused_by_session, is_unserved, refused_by_op, refused_by_itself, refused_at, refusal}

-- of refusals that together refuse nothing the first does not, nor do the others together
pub first_none : (o : Option Errno) (os : List (Option Errno)) → first_refusal (o ∷ os) ≡ None → (o ≡ None) × (first_refusal os ≡ None)
first_none None os e = (refl, e)
first_none (Some errno) os e = absurd (cc)

-- of two refusals that together refuse nothing neither does
pub both_none : (o p : Option Errno) → first_refusal (o ∷ p ∷ []) ≡ None → (o ≡ None) × (p ≡ None)
both_none o p e = let r = first_none o (p ∷ []) e in (r.0, (first_none p [] r.1).0)

-- a refusal that does not refuse found nothing wrong
pub if_none : (b : Bool) (errno : Errno) → refuse_if b errno ≡ None → b ≡ false
if_none true errno e = absurd (cc)
if_none false errno e = refl

-- without a refusal, the condition is false and the other refusal does not apply
served : (b : Bool) (errno : Errno) (o : Option Errno) → cond b (Some errno) o ≡ None → (b ≡ false) × (o ≡ None)
served true errno o e = absurd (cc)
served false errno o e = (refl, e)

module _ (stack : Stacked) where
  -- a request that nothing refuses is not refused by itself
  pub not_by_itself : (s : Session) (node : ℕ) (op : Op) → refusal stack s node op ≡ None
      → refused_by_itself stack (agreement_of s) node op ≡ None
  not_by_itself s node op e =
      (both_none (refused_by_session (is_fresh s) op) (refused_by_itself stack (agreement_of s) node op) e).1

  -- so it is not refused by its operation
  pub not_by_op : (s : Session) (node : ℕ) (op : Op) → refusal stack s node op ≡ None
      → refused_by_op stack (agreement_of s) node op ≡ None
  not_by_op s node op e =
      (served (is_unserved stack op) ENOSYS (refused_by_op stack (agreement_of s) node op) (not_by_itself s node op e)).1

  -- so one about a node has a node
  has_node : (agreed : Agreement) (op : NodeOp) (o : Option Place)
      → option_map_or (refused_at stack agreed op) o (Some ESTALE) ≡ None
      → (p : Place) × (o ≡ Some p)
  has_node agreed op None e = absurd (cc)
  has_node agreed op (Some p) e = (p, refl)

  -- a request about a node that nothing refuses has the number of a node
  pub node_found : (s : Session) (node : ℕ) (op : NodeOp) → refusal stack s node (at_node op) ≡ None
      → (p : Place) × (node_of stack.entries node ≡ Some p)
  node_found s node op e = has_node (agreement_of s) op (node_of stack.entries node) (not_by_op s node (at_node op) e)
