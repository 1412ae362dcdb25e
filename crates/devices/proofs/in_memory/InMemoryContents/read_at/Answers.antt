use Rattle.std.proofs.Common.{arith}
use Rattle.std.proofs.lemmas.Grind.{common_steps}
use Rattle.devices.proofs.Given.{reads_held}
use Rattle.devices.proofs.in_memory.InMemoryContents.read_at.Goals as goal

pub returns-clause-given : goal.returns-clause-given
returns-clause-given c = reads_held _ _ _ _ (grind (arith, common_steps))
