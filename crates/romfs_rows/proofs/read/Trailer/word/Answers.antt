use Rattle.std.proofs.Common.{◌∙◌, ap, arith, length, length-drop}
use Rattle.romfs_format.specs.Fields.{word}
use Rattle.romfs_held.proofs.Views.{word_behind}
use Rattle.romfs_rows.proofs.read.Trailer.word.Goals as goal

pub overflow_add-self-inside : goal.overflow_add-self-inside
overflow_add-self-inside c =
    let v = ap length c.self.view_is in
    let d = length-drop c.self.inside.place c.self.inside.image.now in
    let i = c.self.invariant in
    omega (arith, i.0, i.1, i.2)

pub word-requires : goal.word-requires
word-requires c =
    let v = ap length c.self.view_is in
    let d = length-drop c.self.inside.place c.self.inside.image.now in
    let i = c.self.invariant in
    omega (arith, i.0, i.1, i.2)

pub returns : goal.returns
returns c = c.word.ensures ∙ word_behind _ _ _ ∙ ap (λ t. word t c.args.at) c.self.view_is
