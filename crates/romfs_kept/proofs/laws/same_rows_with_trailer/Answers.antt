use Rattle.romfs_kept.proofs.WithTrailer.{same_rows_shown}
use Rattle.romfs_kept.proofs.laws.same_rows_with_trailer.Goals as goal

pub returns : goal.returns
returns c = λ profile b a g. same_rows_shown b a g profile
