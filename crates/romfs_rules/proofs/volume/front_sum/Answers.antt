use Rattle.std.proofs.Common.{◌∙◌, ap, ◌%◌, ◌^◌, min, take}
use Rattle.std.proofs.lemmas.List.{take_min}
use Rattle.romfs_format.specs.Fields.{summed, word_sum}
use Rattle.romfs_rules.proofs.volume.front_sum.Goals as goal

pub returns : goal.returns
unfolding summed
returns c = c.sum.ensures
    ∙ ap (λ n. word_sum (take n c.args.image.now) % 2 ^ 32) (c.min.ensures ∙ ap (λ n. min 512 n) c.len.ensures)
    ∙ ap (λ xs. word_sum xs % 2 ^ 32) (take_min 512 c.args.image.now)
