use Rattle.romfs_kept.proofs.WithTrailer.{same_fault_with_trailer}
use Rattle.romfs_kept.proofs.laws.same_fault_with_trailer.Goals as goal

pub returns : goal.returns
returns c = λ profile b a g. same_fault_with_trailer b a g profile
