use Rattle.romfs_kept.proofs.WithTrailer.{same_lists_shown}
use Rattle.romfs_kept.proofs.laws.same_lists_with_trailer.Goals as goal

pub returns : goal.returns
returns c = λ profile b a g. same_lists_shown b a g profile
