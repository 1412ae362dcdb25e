use Rattle.std.proofs.Common.{◌∙◌, ap}
use Rattle.romfs_format.specs.Fields.{word}
use Rattle.romfs_format.specs.Trailer.{long_word}
use Rattle.romfs_rows.proofs.Slices.{row_in_part}
use Rattle.romfs_rows.proofs.read.row_in.Goals as goal

pub returns : goal.returns
returns c = λ t i e. row_in_part t i _ _ _ _ _ _ (c.word.ensures ∙ ap (λ xs. word xs 0) e) (c.word-2.ensures ∙ ap (λ xs. word xs 4) e)
    (c.word-3.ensures ∙ ap (λ xs. word xs 8) e) (c.word-4.ensures ∙ ap (λ xs. word xs 12) e)
    (c.long_word.ensures ∙ ap (λ xs. long_word xs 16) e) (c.word-5.ensures ∙ ap (λ xs. word xs 24) e)
