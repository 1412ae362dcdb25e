-- What a contract sees of a file that was opened under a digest of SHA-256 or SHA-512: the seal
-- without its hash.
use Rattle.std.proofs.Common.{◌≡◌, sym, ap, ℕ, List}
use Rattle.devices.specs.Given.{Given}
use Rattle.devices.specs.Seal.{Seal}
use Rattle.devices.specs.declared.algorithm.Algorithm.{Algorithm}
use Rattle.devices.specs.Tree.{Hash}
use Rattle.romfs_seal.specs.Digests.{sha}

pub record Named : Type 0 where
  pub image : Given
  pub tree : Given
  pub algorithm : Algorithm
  pub size : ℕ
  pub digest : List ℕ

abbrev pub named : Seal → Named
named s = record {
  image = s.image;
  tree = s.tree;
  algorithm = s.algorithm;
  size = s.size;
  digest = s.digest;
}

-- the seal with its hash
abbrev pub with_hash : Named → Hash → Seal
with_hash n h = record {
  image = n.image;
  tree = n.tree;
  algorithm = n.algorithm;
  hash = h;
  size = n.size;
  digest = n.digest;
}

abbrev pub seal_of : Named → Seal
seal_of n = with_hash n (sha n.algorithm)

-- a seal whose hash is the algorithm's is no more than its name
pub same_seal : (s : Seal) → s.hash ≡ sha s.algorithm → seal_of (named s) ≡ s
same_seal s e = ap (with_hash (named s)) (sym e)
