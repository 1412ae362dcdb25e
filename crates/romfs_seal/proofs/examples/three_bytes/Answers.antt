use Rattle.std.proofs.Common.{refl}
use Rattle.sha2.specs.Sha256.{compress, digest_bytes, first_words, hash_after, rounds, schedule, sha256}
use Rattle.devices.specs.Tree.{above, block, digests, root, root_hash}
use Rattle.devices.specs.File.{descriptor, field, in_blocks}
use Rattle.romfs_seal.proofs.examples.three_bytes.Goals as goal

pub returns : goal.returns
unfolding first_words schedule rounds compress hash_after digest_bytes sha256 above block digests root root_hash descriptor field in_blocks
returns c = refl
