use Rattle.romfs_rules.specs.Names.{kept_names, AreNameHashes}
use Rattle.romfs_rules.proofs.names.name_hashes.Given as goal

-- the headers before this one have their hashes
abbrev pub invariant-loop-at : goal.invariant-loop-at
invariant-loop-at g l = AreNameHashes (kept_names l.volume.bytes.now l.heads) l.at-index l.hashes.items
