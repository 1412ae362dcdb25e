use Rattle.std.proofs.Common.{◌≡◌, ◌<◌, ◌≤◌, ◌∙◌, ℕ, ◌^◌, length, List, [], ◌∷◌, ◌++◌, ap, arith, refl, sym, subst, append-nil, append_assoc}
use mathlib.Core.Logic.{dite}
use native.Mathlib.Decide.{ℕ_discrete}
use Rattle.std.specs.List.{All}
use Rattle.std.proofs.lemmas.List.Elements.{All-nil, All-push}
use Rattle.std.proofs.lemmas.Result.{IfOk-from_err}
use Rattle.draw_board.specs.declared.board.Board.{Board}
use Rattle.draw_board.specs.declared.hand.Hand.{Hand}
use Rattle.draw_board.specs.Hands.{KeepsShare, left, positions, seen_below, total_of}
use Rattle.reply_model.specs.Balances.{weight}
use Rattle.reply_rounds.specs.declared.pieces.Piece.{Piece}
use Rattle.fuse_answer.specs.Puts.{sourced_by}
use Rattle.reply_rounds.specs.Batches.{AreLight, IsPiece, numbers_of}
use Rattle.reply_rounds.specs.Workers.{KeepsHand}
use Rattle.reply_rounds.proofs.Batched.{begins_within}
use Rattle.reply_rounds.proofs.Hands.{answered_below, numbers_miss, piece_of, told_more, unanswered}
use Rattle.reply_pool.proofs.worker.work.Goals as goal

-- one draw more keeps the hand's share, and what it drew before
kept_on : {B : Type 0} (board : Board B) (first old new : Hand) (added : List ℕ) (n : ℕ) → KeepsShare board first old
    → KeepsShare board old new → positions old ≡ positions first ++ added → positions new ≡ positions old ++ n ∷ []
    → KeepsHand board first new
kept_on board first old new added n was keeps drawn more = record {
  share = (keeps.0, keeps.1 ∙ was.1);
  added = added ++ n ∷ [];
  kept = more ∙ ap (λ (ps : List ℕ). ps ++ n ∷ []) drawn ∙ append_assoc (positions first) added (n ∷ []);
}

pub loop-number-init : goal.loop-number-init
loop-number-init g c = let none = c.new-pieces.ensures.items in record {
  share = (c.requires.hand, refl);
  added = [];
  drawn = sym (append-nil (positions c.args.hand.now));
  told = ap numbers_of none;
  answered = subst (All (IsPiece (sourced_by g.D.Contents.source c.args.served) c.args.jobs.now c.args.size)) (sym none) (All-nil _);
  light = subst AreLight (sym none) (All-nil _);
}

pub loop-number-preserved : goal.loop-number-preserved
loop-number-preserved g c =
    let inv = c.loop-number.invariant in
    let d = c.in-Some.ensures in
    let n = c.in-Some.number in
    let rounded = c.in_ok-bytes.field-0 in
    let piece : Piece g.row.B.Denot = record { number = n; bytes = rounded.bytes; moves = rounded.moves } in
    let more = c.in_ok-push.ensures.items in
    let Right : Piece g.row.B.Denot → Type 0 = IsPiece (sourced_by g.D.Contents.source c.args.served) c.args.jobs.now c.args.size in
    let right : Right piece = piece_of (sourced_by g.D.Contents.source c.args.served) c.args.jobs.now c.args.size rounded piece
    c.batch.result.now
    c.in_ok-bytes.ensures.rounded c.batch.ensures.jobs refl refl in
    let Small : Piece g.row.B.Denot → Type 0 = λ p. weight p.moves.items ≤ 2 ^ 104 in
    record {
      share = (d.hand.0, d.hand.1 ∙ inv.share.1);
      added = inv.added ++ n ∷ [];
      drawn = d.number.1 ∙ ap (λ (ps : List ℕ). ps ++ n ∷ []) inv.drawn ∙ append_assoc (positions c.args.hand.now) inv.added (n ∷ []);
      told = told_more (total_of c.args.board.now) inv.added c.loop-number.pieces.items c.push.new.self.items piece d.number.0 more
          inv.told;
      answered = subst (All Right) (sym more) (All-push Right c.loop-number.pieces.items piece inv.answered right);
      light = subst (All Small) (sym more) (All-push Small c.loop-number.pieces.items piece inv.light c.in_ok-bytes.ensures.light);
    }

pub loop-number-smaller : goal.loop-number-smaller
loop-number-smaller g c =
    let d = c.in-Some.ensures in
    let total : ℕ = total_of c.args.board.now in
    dite (ℕ_discrete (left c.loop-number.hand) 0)
    (λ none. let no = (d.no_miss none).0 in absurd (cc))
    (λ more. let t = d.step (omega arith) in let below = answered_below total t.position c.in-Some.number t.answered in omega arith)

pub returns-in_err-bytes-clause-hand : goal.returns-in_err-bytes-clause-hand
returns-in_err-bytes-clause-hand g c =
    let inv = c.loop-number.invariant in
    let d = c.in-Some.ensures in
    kept_on c.args.board.now c.args.hand.now c.loop-number.hand c.draw.new.hand inv.added c.in-Some.number inv.share d.hand inv.drawn
    d.number.1

pub returns-in_err-push-clause-hand : goal.returns-in_err-push-clause-hand
returns-in_err-push-clause-hand g c =
    let inv = c.loop-number.invariant in
    let d = c.in-Some.ensures in
    kept_on c.args.board.now c.args.hand.now c.loop-number.hand c.draw.new.hand inv.added c.in-Some.number inv.share d.hand inv.drawn
    d.number.1

pub returns-clause-hand : goal.returns-clause-hand
returns-clause-hand g c =
    let inv = c.loop-number.invariant in
    let d = c.draw.ensures in
    dite (ℕ_discrete (left c.loop-number.hand) 0)
    (λ none. let same = (d.no_miss none).1 in record {
      share = (d.hand.0, d.hand.1 ∙ inv.share.1);
      added = inv.added;
      kept = ap positions same ∙ inv.drawn;
    })
    (λ some. let t = d.step (omega arith) in
    kept_on c.args.board.now c.args.hand.now c.loop-number.hand c.draw.new.hand inv.added t.position inv.share d.hand inv.drawn t.added)

pub returns-clause-pieces : goal.returns-clause-pieces
returns-clause-pieces g c =
    let inv = c.loop-number.invariant in
    let total : ℕ = total_of c.args.board.now in
    let every : total ≤ seen_below c.draw.new.hand = c.in_default.ensures.drawn in
    dite (ℕ_discrete (left c.loop-number.hand) 0)
    (λ none. let same = (c.draw.ensures.no_miss none).1 in record {
      added = inv.added;
      drawn = ap positions same ∙ inv.drawn;
      told = inv.told;
      answered = inv.answered;
      every = every;
    })
    (λ some. let t = c.draw.ensures.step (omega arith) in
    let miss = unanswered total t.position c.draw.result c.in_default.is t.answered in record {
      added = inv.added ++ t.position ∷ [];
      drawn = t.added ∙ ap (λ (ps : List ℕ). ps ++ t.position ∷ []) inv.drawn ∙ append_assoc (positions c.args.hand.now) inv.added
          (t.position ∷ []);
      told = inv.told ∙ sym (numbers_miss total t.position inv.added miss);
      answered = inv.answered;
      every = every;
    })

pub draw-requires : goal.draw-requires
draw-requires g c = c.loop-number.invariant.share.0

pub returns-in_err-bytes-clause-pieces : goal.returns-in_err-bytes-clause-pieces
returns-in_err-bytes-clause-pieces g c = IfOk-from_err c.from_residual.result _ c.from_residual.ensures.0

pub returns-in_err-bytes-clause-light : goal.returns-in_err-bytes-clause-light
returns-in_err-bytes-clause-light g c = IfOk-from_err c.from_residual.result _ c.from_residual.ensures.0

pub returns-in_err-push-clause-pieces : goal.returns-in_err-push-clause-pieces
returns-in_err-push-clause-pieces g c = IfOk-from_err c.from_residual-in_err-push.result _ c.from_residual-in_err-push.ensures.0

pub returns-in_err-push-clause-light : goal.returns-in_err-push-clause-light
returns-in_err-push-clause-light g c = IfOk-from_err c.from_residual-in_err-push.result _ c.from_residual-in_err-push.ensures.0

pub returns-clause-light : goal.returns-clause-light
returns-clause-light g c = c.loop-number.invariant.light

pub batch-requires : goal.batch-requires
batch-requires g c =
    begins_within (length c.args.jobs.now) c.args.size c.in-Some.number c.requires.size.0
    (subst (λ (n : ℕ). c.in-Some.number < n) c.requires.total c.in-Some.ensures.number.0)
