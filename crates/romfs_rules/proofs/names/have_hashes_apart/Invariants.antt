use Rattle.romfs_rules.proofs.NameHashes.{AreApartTo}
use Rattle.romfs_rules.proofs.names.have_hashes_apart.Given as goal

-- the hashes before the next one are apart
abbrev pub invariant-loop-high : goal.invariant-loop-high
invariant-loop-high l = AreApartTo l.hashes l.high
