use Rattle.romfs_sets.specs.Names.{AreNumbersBelow}
use Rattle.romfs_sets.proofs.names.numbers_below.Given as goal

-- the list holds the numbers below this one
abbrev pub invariant-loop-number : goal.invariant-loop-number
invariant-loop-number g l = AreNumbersBelow l.number l.numbers.items
