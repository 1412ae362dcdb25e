use Rattle.std.proofs.Common.{◌∙◌, ap, arith, length, length-drop}
use Rattle.romfs_format.specs.Trailer.{long_word}
use Rattle.romfs_held.proofs.Views.{long_behind}
use Rattle.romfs_rows.proofs.read.Trailer.long_word.Goals as goal

pub overflow_add-self-inside : goal.overflow_add-self-inside
overflow_add-self-inside c =
    let v = ap length c.self.view_is in
    let d = length-drop c.self.inside.place c.self.inside.image.now in
    let i = c.self.invariant in
    omega (arith, i.0, i.1, i.2)

pub long_word-requires : goal.long_word-requires
long_word-requires c =
    let v = ap length c.self.view_is in
    let d = length-drop c.self.inside.place c.self.inside.image.now in
    let i = c.self.invariant in
    omega (arith, i.0, i.1, i.2)

pub returns : goal.returns
returns c = c.long_word.ensures ∙ long_behind _ _ _ ∙ ap (λ t. long_word t c.args.at) c.self.view_is
