use Rattle.std.proofs.Common.{refl}
use Rattle.devices.specs.Tree.{root}
use Rattle.romfs_seal.proofs.Binding.{bound_or_forged}
use Rattle.romfs_seal.proofs.tree_laws.vouched_is_right_or_forged.Goals as goal

pub returns : goal.returns
returns g c hash xs n levels i b blocks has below vouched =
    bound_or_forged (g.H.BlockHash.algorithm_of hash) (g.H.BlockHash.digest_of hash) (g.met.H.BlockHash.sized hash) levels xs n
    (root (g.H.BlockHash.algorithm_of hash) (g.H.BlockHash.digest_of hash) levels xs n) i b blocks below (has.enough) refl vouched
