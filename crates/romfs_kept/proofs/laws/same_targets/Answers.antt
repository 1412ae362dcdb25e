use Rattle.romfs_kept.proofs.Likeness.{same_target}
use Rattle.romfs_kept.proofs.laws.same_targets.Goals as goal

pub returns : goal.returns
returns c = same_target
