use Rattle.std.proofs.Common.{◌≡◌, ◌∙◌, ◌+◌, ap, arith}
use Rattle.romfs_format.specs.Fields.{word}
use Rattle.romfs_held.specs.Blocks.{filled}
use Rattle.romfs_held.proofs.Fronts.{word_of_block}
use Rattle.romfs_held.proofs.blocks.head_in_blocks.Goals as goal

pub returns-then-near-ge-HEAD_SIZE : goal.returns-then-near-ge-HEAD_SIZE
returns-then-near-ge-HEAD_SIZE c =
    let m : c.args.at + 0 ≡ c.args.at = omega arith in
    let a = filled c.args.size c.args.blocks.now.all.now c.args.bytes.now in
    let block = word_of_block c.args.size _ _ c.args.at _ c.rest_of_block-near.ensures in
    c.head_with.ensures a
    (c.word.ensures ∙ block 0 (omega arith) (omega arith) ∙ ap (word a) m)
    (c.word-then-near-ge-HEAD_SIZE.ensures ∙ block 4 (omega arith) (omega arith))
    (c.word-then-near-ge-HEAD_SIZE-2.ensures ∙ block 8 (omega arith) (omega arith))
    c.requires.name

pub returns : goal.returns
returns c = c.head_with-2.ensures _ c.word_in-first.ensures c.word_in-spec.ensures c.word_in-data_size.ensures c.requires.name
