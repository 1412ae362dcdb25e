use Rattle.romfs_kept.proofs.Likeness.{same_path, same_end}
use Rattle.romfs_kept.proofs.laws.same_paths.Goals as goal

pub returns-clause-paths : goal.returns-clause-paths
returns-clause-paths c = same_path

pub returns-clause-ends : goal.returns-clause-ends
returns-clause-ends c = same_end
