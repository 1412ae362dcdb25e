use Rattle.std.proofs.Common.{◌≡◌, ◌++◌, map, take, drop}
use Rattle.layer_tree.specs.Members.{keyed_past}
use Rattle.layer_tree.proofs.members.set_keys.Given as goal

-- the members so far have their keys, and the others are as they were
abbrev pub invariant-loop-member : goal.invariant-loop-member
invariant-loop-member l =
    l.members ≡ map (keyed_past l.image l.shared) (take l.member-index l.initial.members) ++ drop l.member-index l.initial.members
