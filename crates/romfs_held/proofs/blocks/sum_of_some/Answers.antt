use Rattle.std.proofs.Common.{arith}
use Rattle.romfs_held.specs.Blocks.{filled}
use Rattle.romfs_held.proofs.Fronts.{filled_long}
use Rattle.romfs_held.proofs.Sums.{run_words, one_word}
use Rattle.romfs_held.proofs.blocks.sum_of_some.Goals as goal

pub returns-then-count-eq0 : goal.returns-then-count-eq0
returns-then-count-eq0 c =
    let e = filled_long c.args.size c.args.blocks.now.all.now c.args.bytes.now in
    one_word (filled c.args.size c.args.blocks.now.all.now c.args.bytes.now) c.args.at c.args.len _ (omega arith) c.requires.long
    c.word_in.ensures (omega arith)

pub returns : goal.returns
returns c =
    run_words c.args.size _ _ c.args.at c.args.len _ _ _ c.run-near.ensures (omega arith) (omega arith) (omega arith) (omega arith)
    c.requires.within c.word_sum.ensures
