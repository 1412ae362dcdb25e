use Rattle.std.specs.Prelude.{if◌then◌else◌, is_some}
use Rattle.std.proofs.Common.{◌≡◌, ◌∙◌, [], ap, refl, subst, sym}
use Rattle.std.proofs.lemmas.Result.{err_from_is_err_and}
use Rattle.reply_model.specs.Balances.{IsMoved}
use Rattle.stack_model.specs.Listing.{Stacked}
use Rattle.fuse_wire.specs.Requests.{Asked}
use Rattle.reply_model.specs.declared.session.Session.{Session}
use Rattle.reply_model.specs.Moves.{moved, moves}
use Rattle.reply_model.specs.Sessions.{agreement_of, is_fresh}
use Rattle.fuse_answer.specs.declared.outcome.Answer.{Answer}
use Rattle.fuse_answer.specs.Answers.{IsAnswer, answer_moves}
use Rattle.fuse_answer.proofs.replies.settle.Goals as goal

-- what a request moves that is answered is what its answer does
answered : {A : Type 0} (stack : Stacked) (s : Session) (q : Asked) (a : Answer A)
    → IsAnswer stack (is_fresh s) (agreement_of s) q a → moves stack s q ≡ answer_moves stack a
answered stack s q a is =
    ap (λ r. if is_some r then [] else moved stack (agreement_of s) q.node q.op) is.taken ∙ sym is.moves_are

pub tell-requires : goal.tell-requires
tell-requires g c = c.decide-decided.ensures

pub put_rows_and_move-requires-clause-within : goal.put_rows_and_move-requires-clause-within
put_rows_and_move-requires-clause-within g c = c.requires

pub add_answer_moves-requires-clause-within : goal.add_answer_moves-requires-clause-within
add_answer_moves-requires-clause-within g c = c.requires

pub returns-in_err-tell-clause-reply : goal.returns-in_err-tell-clause-reply
returns-in_err-tell-clause-reply g c =
    let failed = err_from_is_err_and c.from_residual.result c.from_residual.ensures.1 in rw failed.1 c.in_err-tell.ensures

pub returns-in_err-tell-clause-moves : goal.returns-in_err-tell-clause-moves
returns-in_err-tell-clause-moves g c =
    let failed = err_from_is_err_and c.from_residual.result c.from_residual.ensures.1 in rw failed.1 (tt, refl)

pub returns-in-Ok-clause-reply : goal.returns-in-Ok-clause-reply
returns-in-Ok-clause-reply g c = c.in_ok-tell.ensures

pub returns-in_default-decided-clause-reply : goal.returns-in_default-decided-clause-reply
returns-in_default-decided-clause-reply g c = c.in_ok-tell.ensures

pub add_answer_moves-requires-clause-sized : goal.add_answer_moves-requires-clause-sized
add_answer_moves-requires-clause-sized g c = let is = rw c.in-Ok.is at c.decide-decided.ensures in is.sized

pub returns-in-Ok-clause-moves : goal.returns-in-Ok-clause-moves
returns-in-Ok-clause-moves g c =
    let is = rw c.in-Ok.is at c.decide-decided.ensures in
    let same = answered _ _ _ _ is in
    (subst (λ m. IsMoved m c.args.balances.now c.add_answer_moves.new.balances) (sym same) c.add_answer_moves.ensures, tt)
