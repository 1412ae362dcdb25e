use Rattle.std.proofs.Common.{refl, arith}
use Rattle.romfs_held.proofs.Views.{begins}
use Rattle.romfs_held.proofs.read.starts_with.Goals as goal

pub returns : goal.returns
returns c = (λ _. begins _ _ c.requires (λ i l. c.loop-at.invariant i (omega arith)), λ _. refl)
