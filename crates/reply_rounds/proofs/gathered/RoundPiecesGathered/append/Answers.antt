use Rattle.std.proofs.Common.{subst, sym}
use Rattle.serve_loop.specs.Rounds.{Answering, AppendsRound, output}
use Rattle.reply_rounds.specs.Batches.{AreOrdered}
use Rattle.reply_rounds.proofs.Hands.{light_enough}
use Rattle.reply_rounds.proofs.Spreading.{by_spread}
use Rattle.reply_rounds.proofs.gathered.RoundPiecesGathered.append.Goals as goal

pub append_all-requires-clause-light : goal.append_all-requires-clause-light
append_all-requires-clause-light g c =
    light_enough c.args.self.pieces.items c.deref.result.now
    (subst (AreOrdered c.args.self.pieces.items) (sym c.deref.ensures.value) c.sort_by_number.ensures) c.requires.whole.0 c.requires.whole.1

pub returns : goal.returns
returns g c = λ by s stream told. (
    let (first, over, same, o) = told in
    let old = output c.args.replies.now.items c.args.balances.now in
    let new = output c.append_all.new.replies.items c.append_all.new.balances in
    subst (λ (a : Answering). AppendsRound a s stream c.args.self.round old new) (sym same)
    (by_spread first over s stream c.args.self old new o (record {
      ordered = c.deref.result.now;
      order = subst (AreOrdered c.args.self.pieces.items) (sym c.deref.ensures.value) c.sort_by_number.ensures;
      bytes = c.in_ok-append_all.ensures.bytes;
      moves = c.in_ok-append_all.ensures.moves;
    })))
