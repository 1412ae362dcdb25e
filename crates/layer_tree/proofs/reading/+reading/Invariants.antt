use Rattle.std.proofs.Common.{◌≡◌, ◌+◌, ◌*◌, drop}
use Rattle.layer_tree.specs.Members.{members_in}
use Rattle.layer_tree.proofs.Building.{Building}
use Rattle.layer_tree.proofs.reading.+reading.Given as goal

-- the names that a path may still have, twice, and one
abbrev pub decreases-add_branches : goal.decreases-add_branches
decreases-add_branches g l = 2 * l.left + 1

-- the same twice: below a member there may be one name less
abbrev pub decreases-branches_below : goal.decreases-branches_below
decreases-branches_below g l = 2 * l.left

-- the members so far have branches, and the ends are still the image's
abbrev pub invariant-branches_below-loop-member : goal.invariant-branches_below-loop-member
invariant-branches_below-loop-member g l =
    let all = members_in l.layer.image.now l.members in
    Building l.layer.image.now l.layer.number all (drop l.member-index all) l.made.entries.items l.made.marks.items
    × (l.ends ≡ l.layer.image.now)
