use Rattle.std.proofs.Common.{◌≡◌, List, length, take}
use Rattle.layer_paths.specs.declared.entries.Entry.{Entry}
use Rattle.node_table.specs.Walks.{Visit}
use Rattle.node_table.specs.Numbering.{IsNumbered}
use Rattle.node_table.proofs.numbering.number_shared.Given as goal

-- the places of the visits so far are numbered, and there is room for the numbers of all
abbrev pub invariant-loop-at : goal.invariant-loop-at
invariant-loop-at g l = (length l.numbers.items ≡ length l.visits) × (first : List (Visit Entry))
    × IsNumbered l.visits l.at first l.starts.items l.paths.items (take l.at l.numbers.items)
