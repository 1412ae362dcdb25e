use Rattle.romfs_rows.proofs.Shortness.{all_short}
use Rattle.romfs_rows.proofs.file_xattrs.FileXattrs.value.Goals as goal

pub returns-clause-short : goal.returns-clause-short
returns-clause-short c = all_short _ _ _ c.self.invariant.right c.value_of.result c.value_of.ensures
