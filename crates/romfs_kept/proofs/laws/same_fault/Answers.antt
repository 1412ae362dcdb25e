use Rattle.romfs_kept.proofs.Volumes.{same_fault}
use Rattle.romfs_kept.proofs.laws.same_fault.Goals as goal

pub returns : goal.returns
returns c = same_fault
