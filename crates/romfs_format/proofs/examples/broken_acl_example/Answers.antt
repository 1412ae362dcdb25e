use Rattle.romfs_format.proofs.WorkedExtended.{no_acls}
use Rattle.romfs_format.proofs.examples.broken_acl_example.Goals as goal

pub returns : goal.returns
returns c = no_acls
