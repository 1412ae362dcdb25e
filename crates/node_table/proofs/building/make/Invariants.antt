use Rattle.std.proofs.Common.{List}
use Rattle.stack_model.specs.Listing.{Entry as Listed, stacked}
use Rattle.layer_paths.specs.declared.entries.Entry.{Entry}
use Rattle.node_table.specs.Walks.{Visit, walk_of}
use Rattle.node_table.specs.Numbering.{number_among}
use Rattle.node_table.specs.Building.{number_above, StandAtStarts}
use Rattle.node_table.specs.Agreement.{AgreeWithListing}
use Rattle.node_table.proofs.Made.{Making}
use Rattle.node_table.proofs.building.make.Given as goal

-- first branches are at their places, and agree with a listing; those so far have nodes
abbrev pub invariant-loop-at : goal.invariant-loop-at
invariant-loop-at g l = (first : List (Visit Entry)) × (entries : List Listed)
    × AgreeWithListing (stacked l.images entries) (number_among l.walk.visits.items)
    (number_above l.numbered.numbers l.walk.above.items) first l.numbered.starts l.numbered.paths
    × StandAtStarts (walk_of l.walk) l.numbered.numbers first l.numbered.starts
    × Making (stacked l.images entries) l.nodes.items l.directories l.at
