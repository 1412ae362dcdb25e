use Rattle.romfs_seal.proofs.FileBlocks.{one_file}
use Rattle.romfs_seal.proofs.tree_laws.one_digest_one_file.Goals as goal

pub returns : goal.returns
returns g c hash xs ys d x y =
    one_file (g.H.BlockHash.algorithm_of hash) (g.H.BlockHash.digest_of hash) (g.met.H.BlockHash.sized hash) xs ys d x y
