-- The decision about a request at a node is the decision about it in a session that has begun, if it is served (`decided_at`). A request
-- for extended attributes is not, if no node has one (`not_served`).
use Rattle.std.proofs.Common.{◌≡◌, true, false, Option, Some, None, Result, Ok, Err, MatchOption, refl}
use Rattle.fuse_wire.specs.declared.errno.Errno.{Errno}
use Rattle.fuse_wire.specs.declared.errno.Errno.TheVariants.{ENOSYS, ESTALE}
use Rattle.fuse_wire.specs.Requests.{NodeOp, Asked, at_node}
use Rattle.stack_model.specs.Listing.{Stacked}
use Rattle.stack_model.specs.Numbers.{Place, node_of}
use Rattle.stack_model.specs.Attributes.{has_xattrs}
use Rattle.reply_model.specs.declared.session.Agreement.{Agreement}
use Rattle.reply_model.specs.Refusals.{asks_xattrs, is_unserved, refusal_in, refused_at}
use Rattle.reply_model.proofs.Served.{no_init}
use Rattle.fuse_answer.specs.declared.outcome.Answer.{Answer}
use Rattle.fuse_answer.specs.Answers.{DecidesAt, DecidesIn, IsAnswer, IsAnswerAt}

-- extended attributes if no node has one
pub not_served : (stack : Stacked) (agreed : Agreement) (q : Asked) → asks_xattrs q.op ≡ true → has_xattrs stack ≡ false
    → refusal_in stack false agreed q.node q.op ≡ Some ENOSYS
not_served stack agreed q a h = rw (no_init q.op a, a, h) refl

still_served : (stack : Stacked) (q : Asked) (op : NodeOp) → q.op ≡ at_node op → is_unserved stack q.op ≡ false
    → is_unserved stack (at_node op) ≡ false
still_served stack q op e u = rw e at u

module _ {A : Type 0} (stack : Stacked) (agreed : Agreement) (q : Asked) (op : NodeOp) (e : q.op ≡ at_node op)
    (u : is_unserved stack q.op ≡ false) where
  answered : (a : Answer A) (o : Option Place) → node_of stack.entries q.node ≡ o
      → MatchOption o (◌≡◌ {A = Result (Answer A) Errno} (Ok a) (Err ESTALE)) (λ p. IsAnswerAt stack agreed op p a)
      → IsAnswer stack false agreed q a
  answered a None f d = absurd (cc)
  answered a (Some p) f d = record {
    taken = rw (e, still_served stack q op e u, f, d.taken) refl;
    data_is = rw (e, f) d.data_is;
    reads_are = λ sources. rw (e, f) (d.reads_are sources);
    sized = d.sized;
    moves_are = rw (e, f) d.moves_are;
  }

  refused : (r : Result (Answer A) Errno) (errno : Errno) → r ≡ Err errno → (o : Option Place) → node_of stack.entries q.node ≡ o
      → MatchOption o (r ≡ Err ESTALE) (λ p. refused_at stack agreed op p ≡ Some errno)
      → refusal_in stack false agreed q.node q.op ≡ Some errno
  refused r errno is None f d = rw (e, still_served stack q op e u, f) (cc)
  refused r errno is (Some p) f d = rw (e, still_served stack q op e u, f, d) refl

  pub decided_at : (result : Result (Answer A) Errno) → DecidesAt stack agreed q.node op result → DecidesIn stack false agreed q result
  decided_at (Ok a) d = answered a (node_of stack.entries q.node) refl d
  decided_at (Err errno) d = refused (Err errno) errno refl (node_of stack.entries q.node) refl d
