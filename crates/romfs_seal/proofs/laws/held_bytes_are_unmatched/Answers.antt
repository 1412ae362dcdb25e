use Rattle.romfs_seal.proofs.Whole.{honest_is}
use Rattle.romfs_seal.proofs.laws.held_bytes_are_unmatched.Goals as goal

pub returns : goal.returns
returns c s xs sized honest = honest_is s sized xs honest
