use Rattle.std.proofs.Common.{drop}
use Rattle.layer_tree.specs.Members.{members_in}
use Rattle.layer_tree.proofs.Building.{Whitening}
use Rattle.layer_tree.proofs.reading.whiteouts_of.Given as goal

-- the markers so far have their marks
abbrev pub invariant-loop-member : goal.invariant-loop-member
invariant-loop-member g l =
    let all = members_in l.image l.members in
    Whitening all (drop l.member-index all) l.marks.items
