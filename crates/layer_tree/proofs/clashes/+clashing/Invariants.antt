use Rattle.std.proofs.Common.{length, ◌+◌, ◌*◌}
use Rattle.layer_paths.specs.Rows.{spread}
use Rattle.layer_tree.proofs.Clashing.{IsClashing}
use Rattle.layer_tree.proofs.clashes.+clashing.Given as goal

-- the rows below the file, twice, and one: fewer than those of its directory
abbrev pub decreases-clash_of : goal.decreases-clash_of
decreases-clash_of g l = 2 * length l.file.now.below + 1

-- the rows of the files, twice
abbrev pub decreases-clashes_below : goal.decreases-clashes_below
decreases-clashes_below g l = 2 * length (spread l.files.now)

-- the files so far have their marks
abbrev pub invariant-clashes_below-loop-file : goal.invariant-clashes_below-loop-file
invariant-clashes_below-loop-file g l = IsClashing g.T.Cuts.removed l.fn.files l.left l.fn.others l.rest l.marks.items

-- the files that are left
abbrev pub decreases-clashes_below-loop-file : goal.decreases-clashes_below-loop-file
decreases-clashes_below-loop-file g l = length l.left
