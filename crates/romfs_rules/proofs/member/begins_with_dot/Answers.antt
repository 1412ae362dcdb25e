use Rattle.std.proofs.Common.{refl}
use Rattle.romfs_rules.proofs.Dots.{dot_first}
use Rattle.romfs_rules.proofs.member.begins_with_dot.Goals as goal

pub returns-then-at-len : goal.returns-then-at-len
returns-then-at-len c d = let first = (dot_first c.args.volume.now.bytes.now c.args.at d).1 in rw (c.byte_at.ensures, first) refl
