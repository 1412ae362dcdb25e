use Rattle.std.proofs.Common.{length}
use Rattle.romfs_sets.proofs.Keyed.{Holding}
use Rattle.romfs_rules.specs.Names.{kept_names}
use Rattle.romfs_rules.proofs.names.named_headers.Given as goal

-- the headers before this one that have a name are held, but for some that have theirs alone
abbrev pub invariant-loop-number : goal.invariant-loop-number
invariant-loop-number g l = Holding (kept_names l.volume.bytes.now l.heads) (length l.heads) l.number l.named.items
