use Rattle.romfs_rules.proofs.Judging.{and_known}
use Rattle.romfs_rules.proofs.header.Header.breaks_major_large.Goals as goal

pub returns-then-is_major_large : goal.returns-then-is_major_large
returns-then-is_major_large c = rw (← c.self.view_is) (and_known c.is_major_large.ensures c.if-is_major_large.true c.self.invariant.is_used)
