use Rattle.std.proofs.Common.{◌≡◌}
use Rattle.devices.specs.Tree.{digests}
use Rattle.romfs_seal.proofs.opening.above.Given as goal

-- the digests so far
abbrev pub invariant-loop-i : goal.invariant-loop-i
invariant-loop-i g l = l.digests.items ≡ digests (g.F.NamedFiles.seal l.files).hash l.bytes l.i
