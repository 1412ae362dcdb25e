use Rattle.std.proofs.Common.{◌∙◌, ap, subst}
use Rattle.std.proofs.Math.Facts.{Fits-lt-pow}
use Rattle.fuse_wire.specs.Requests.{Asked}
use Rattle.reply_model.specs.Moves.{moves}
use Rattle.reply_model.specs.Readings.{IsReplyOver}
use Rattle.reply_model.specs.Sessions.{session_after}
use Rattle.fuse_answer.specs.Puts.{sourced_by}
use Rattle.reply_model.specs.Balances.{IsMoved}
use Rattle.reply_rounds.proofs.Light.{message_light}
use Rattle.reply_pool.proofs.pool.CallersThreadAnswersOne.answer.Goals as goal

pub returns : goal.returns
returns g c =
    let by = sourced_by g.D.Contents.source c.args.self.now.served in
    let stack = c.args.self.now.served.table.now in
    let s = c.args.session in
    let asks = c.read-request.ensures in
    let (put, is, told) = c.in_ok-answer_and_move.ensures.reply.0 in
    let moved = c.in_ok-answer_and_move.ensures.moves.0 in (
      put,
      told,
      record {
        session = c.after.ensures ∙ ap (λ (q : Asked). session_after s q.op) asks;
        told = subst (λ (q : Asked). IsReplyOver by s q put) asks is;
        moves = subst (λ (q : Asked). IsMoved (moves stack s q) c.args.balances.now c.answer_and_move.new.balances)
            asks moved;
        light = message_light stack s c.args.message.now c.requires.message (λ k. Fits-lt-pow (c.type_inv.message k));
      },
    )
