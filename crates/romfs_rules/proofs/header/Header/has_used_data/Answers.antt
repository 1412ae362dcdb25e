use Rattle.romfs_rules.proofs.Judging.{and_known}
use Rattle.romfs_rules.proofs.header.Header.has_used_data.Goals as goal

pub returns-then-has_data : goal.returns-then-has_data
returns-then-has_data c = rw (← c.self.view_is) (and_known c.has_data.ensures c.if-has_data.true c.self.invariant.is_used)
