use Rattle.romfs_format.specs.Fields.{root}
use Rattle.romfs_reader.proofs.Paths.{one_header, short, all_paths}
use Rattle.romfs_reader.proofs.laws.paths_are_few.Goals as goal

pub returns-clause-one : goal.returns-clause-one
returns-clause-one c = λ a i path g h. one_header a i path (root a) g h

pub returns-clause-short : goal.returns-clause-short
returns-clause-short c = short

pub returns-clause-all : goal.returns-clause-all
returns-clause-all c = all_paths
