use Rattle.romfs_rules.specs.SameNames.{AreChosen}
use Rattle.romfs_rules.proofs.same_names.chosen.Given as goal

-- of the headers before this one, those that are noted are chosen
abbrev pub invariant-loop-number : goal.invariant-loop-number
invariant-loop-number g l = AreChosen l.heads l.noted l.number l.found.items
