use Rattle.romfs_kept.proofs.Volumes.{same_breaks}
use Rattle.romfs_kept.proofs.laws.same_rules.Goals as goal

pub returns : goal.returns
returns c = same_breaks
