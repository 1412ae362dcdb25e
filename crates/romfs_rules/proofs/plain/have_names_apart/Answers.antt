use Rattle.std.proofs.Common.{length, refl}
use Rattle.romfs_rules.specs.Names.{kept_names}
use Rattle.romfs_rules.proofs.NameHashes.{hashes_apart}
use Rattle.romfs_rules.proofs.plain.have_names_apart.Goals as goal

pub returns-then-have_hashes_apart : goal.returns-then-have_hashes_apart
returns-then-have_hashes_apart g c = λ _.
    let heads = c.args.heads.now in
    hashes_apart (kept_names c.args.volume.now.bytes.now heads) (length heads) c.args.hashes.now c.requires.hashes
    (c.if-have_hashes_apart.ensures refl)
