use Rattle.std.proofs.Common.{arith}
use Rattle.std.proofs.lemmas.Grind.{common_steps}
use Rattle.romfs_rules.proofs.header.Header.breaks_name_open.Goals as goal

pub returns-then-self-clause-open : goal.returns-then-self-clause-open
returns-then-self-clause-open c = rw (← c.self.view_is) (let asked = c.self.invariant.asked in grind (arith, common_steps))
