use Rattle.std.proofs.Common.{◌≡◌, ◌∙◌, sym, ap, subst, ◌+◌, arith}
use Rattle.std.proofs.lemmas.List.{take_rest}
use Rattle.romfs_held.specs.Blocks.{IsFront}
use Rattle.romfs_format.specs.Fields.{word}
use Rattle.romfs_held.proofs.Fronts.{front_more, word_front}
use Rattle.romfs_held.proofs.blocks.head_in.Goals as goal

pub returns : goal.returns
returns c = λ a e f.
    let m : c.args.at + 0 ≡ c.args.at = omega arith in
    c.head_with.ensures a
    (c.word.ensures ∙ word_front a _ 272 _ f 0 (omega arith) (omega arith) ∙ ap (word a) m)
    (c.word-2.ensures ∙ word_front a _ 272 _ f 4 (omega arith) (omega arith))
    (c.word-3.ensures ∙ word_front a _ 272 _ f 8 (omega arith) (omega arith))
    (c.name_len_in-name_len.ensures a e
    (subst (λ xs. IsFront a (c.args.at + 16) 256 xs) (sym (take_rest c.args.near.now 16)) (front_more a _ _ (omega arith) f)))
