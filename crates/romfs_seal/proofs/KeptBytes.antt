-- What may be kept of a tree is bytes (kept_bytes).
use Rattle.std.proofs.Common.{sym, subst, ℕ, zero, suc, List}
use Rattle.devices.specs.Tree.{AreBytes, IsDigest, digest_size}
use Rattle.devices.specs.Seal.{Seal, MayBeOnly, MayBeKept}
use Rattle.romfs_seal.proofs.Levels.{bytes-zeros}

only_bytes : (s : Seal) (sized : (m : List ℕ) → IsDigest s.algorithm (s.hash m)) (size : ℕ) (kept : List ℕ)
    → MayBeOnly s size kept → AreBytes kept
only_bytes s sized zero kept may = subst AreBytes (sym may) (bytes-zeros (digest_size s.algorithm))
only_bytes s sized (suc k) kept may = subst AreBytes (sym (may.2)) ((sized (may.0)).bytes)

pub kept_bytes : (s : Seal) (sized : (m : List ℕ) → IsDigest s.algorithm (s.hash m)) (levels : ℕ) (kept : List ℕ)
    → MayBeKept s levels kept → AreBytes kept
kept_bytes s sized zero kept may = only_bytes s sized s.size kept may
kept_bytes s sized (suc zero) kept may = subst AreBytes (sym (may.2)) ((sized (may.0)).bytes)
kept_bytes s sized (suc (suc levels)) kept may = may.1
