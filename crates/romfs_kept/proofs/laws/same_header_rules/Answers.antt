use Rattle.romfs_kept.proofs.Likeness.{header_rules}
use Rattle.romfs_kept.proofs.laws.same_header_rules.Goals as goal

pub returns : goal.returns
returns c = header_rules
