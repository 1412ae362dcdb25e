use Rattle.romfs_rules.proofs.Judging.{and_known}
use Rattle.romfs_rules.proofs.header.Header.breaks_target_long.Goals as goal

pub returns-then-is_target_long : goal.returns-then-is_target_long
returns-then-is_target_long c = rw (← c.self.view_is) (and_known c.is_target_long.ensures c.if-is_target_long.true c.self.invariant.is_used)
