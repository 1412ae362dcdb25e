use Rattle.std.proofs.Common.{◌≡◌, length}
use Rattle.romfs_reader.specs.Walks.{IsWalk, members_from, chain_from, places}
use Rattle.romfs_reader.proofs.members.member_from.Given as goal

-- the walk can go on at `at`, and the members left are those that were left at first
abbrev pub invariant-loop-at : goal.invariant-loop-at
invariant-loop-at l = record {
  walk : IsWalk l.image l.root l.at;
  left : members_from l.image l.directory l.at ≡ members_from l.image l.directory l.initial.at;
}

-- the headers that the chain has left
abbrev pub decreases-loop-at : goal.decreases-loop-at
decreases-loop-at l = length (chain_from l.image (places l.image) l.at)
