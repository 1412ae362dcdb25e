use Rattle.std.proofs.Common.{ap}
use Rattle.romfs_reader.proofs.parts.name_in.Goals as goal

pub name_of-requires-clause-name : goal.name_of-requires-clause-name
name_of-requires-clause-name c = ap (λ x. x.name_len) c.requires.is
