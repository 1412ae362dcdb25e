use Rattle.std.proofs.Common.{ℕ, List, Option}
use Rattle.romfs_sets.specs.Names.{AreInNameOrder}
use Rattle.romfs_sets.proofs.Classing.{IsClassing}
use Rattle.romfs_sets.proofs.names.classes_in_order.Given as goal

-- the names before this one have their classes
abbrev pub invariant-loop-i : goal.invariant-loop-i
invariant-loop-i g l = record {
  classing : (name : ℕ → Option (List ℕ)) → AreInNameOrder name l.count l.named.items
      → IsClassing name l.count l.named.items l.classes.items l.i;
}
