-- Without its trailer the image with two rows shows none under a profile that reads attributes (differs).
use Rattle.std.proofs.Common.{◌≡◌, ◌∙◌, sym, ℕ, List, [], ◌∷◌, take, refl}
use Rattle.romfs_format.specs.declared.attribute_row.AttributeRow.{AttributeRow}
use Rattle.romfs_format.specs.declared.rule.Profile.TheVariants.{UsualWithAttributes}
use Rattle.romfs_format.specs.Fields.{word}
use Rattle.romfs_format.specs.Trailer.{trailer, long_word, rows_shown}
use Rattle.romfs_format.specs.TrailerExamples.{two_rows, first_row, second_row}
use Rattle.romfs_kept.specs.Footprint.{reach}

abbrev front : List ℕ
front = take (reach two_rows) two_rows

none_shown : rows_shown UsualWithAttributes front ≡ []
unfolding word trailer long_word
none_shown = refl

two_shown : rows_shown UsualWithAttributes two_rows ≡ first_row ∷ second_row ∷ []
unfolding word trailer long_word
two_shown = refl

pub differs : ¬ (rows_shown UsualWithAttributes front ≡ rows_shown UsualWithAttributes two_rows)
differs e = (let z : (let none : List AttributeRow = [] in none) ≡ first_row ∷ second_row ∷ [] = sym none_shown ∙ e ∙ two_shown in cc)
