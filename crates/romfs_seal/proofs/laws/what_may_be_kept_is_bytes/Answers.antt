use Rattle.romfs_seal.proofs.KeptBytes.{kept_bytes}
use Rattle.romfs_seal.proofs.laws.what_may_be_kept_is_bytes.Goals as goal

pub returns : goal.returns
returns c s levels kept sized may = kept_bytes s sized levels kept may
