use Rattle.std.proofs.Common.{◌≡◌, ◌∙◌, ◌+◌, ap, length, drop, take, arith, length-drop}
use Rattle.std.proofs.lemmas.List.{take_rest}
use Rattle.romfs_format.specs.Fields.{word}
use Rattle.romfs_held.specs.Blocks.{filled}
use Rattle.romfs_held.proofs.Fronts.{filled_long, front_of, front_more, name_front, word_front}
use Rattle.romfs_held.proofs.blocks.named_of_blocks.Goals as goal

pub returns-clause-head : goal.returns-clause-head
returns-clause-head c =
    let a = filled c.args.size c.args.blocks.now.all.now c.args.bytes.now in
    let long : length a ≡ c.args.size = filled_long _ _ _ in
    let f = front_of c.args.size _ _ c.args.at _ c.run-near.ensures in
    let m : c.args.at + 0 ≡ c.args.at = omega arith in
    c.head_with.ensures a
    (c.word.ensures ∙ word_front a _ 272 _ f 0 (omega arith) (omega arith) ∙ ap (word a) m)
    (c.word-2.ensures ∙ word_front a _ 272 _ f 4 (omega arith) (omega arith))
    (c.word-3.ensures ∙ word_front a _ 272 _ f 8 (omega arith) (omega arith))
    c.requires.name

pub returns-clause-name : goal.returns-clause-name
returns-clause-name c =
    let a = filled c.args.size c.args.blocks.now.all.now c.args.bytes.now in
    let near = c.run-near.result.now in
    let long : length a ≡ c.args.size = filled_long _ _ _ in
    let d = length-drop 16 near in
    let f = front_more a c.args.at near (omega arith) (front_of c.args.size _ _ c.args.at _ c.run-near.ensures) in
    ap (take c.args.name_len) (take_rest near 16)
    ∙ name_front a c.args.at (drop 16 near) f c.args.name_len c.requires.name (omega arith) (omega arith)
