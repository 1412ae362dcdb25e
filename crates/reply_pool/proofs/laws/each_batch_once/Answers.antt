use Rattle.std.proofs.Common.{◌∙◌, ℕ, ap}
use Rattle.std.specs.List.{range_with_len}
use Rattle.draw_board.specs.Positions.{times}
use Rattle.fuse_answer.specs.Puts.{sourced_by}
use Rattle.reply_rounds.proofs.Hands.{alone, closed, whole}
use Rattle.reply_pool.proofs.laws.each_batch_once.Goals as goal

pub returns : goal.returns
returns g c = λ calls draws works some last. (
    let by = sourced_by g.D.Contents.source c.args.served in
    let jobs = c.args.jobs.now in
    let size = c.args.size in
    let mine = alone by jobs size c.args.board.now works in
    whole by jobs size c.args.pieces.now c.requires.some mine.0.answered
    (λ x. closed by jobs size c.args.board.now c.args.hand.now c.args.pieces.now draws mine.0 (mine.1 some) last x
    ∙ ap (λ (n : ℕ). times x (range_with_len 0 n)) c.requires.total))
