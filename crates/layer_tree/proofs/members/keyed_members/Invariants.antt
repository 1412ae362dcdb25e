use Rattle.std.proofs.Common.{◌≡◌, [], ◌++◌, map, All}
use Rattle.romfs_format.specs.Heads.{head_of}
use Rattle.romfs_reader.specs.Readers.{IsGiven}
use Rattle.layer_tree.specs.Members.{HaveFront, IsRead, IsKeyed}
use Rattle.layer_tree.proofs.members.keyed_members.Given as goal

-- what has a key and what is left are all members, and all names so far begin with the front
abbrev pub invariant-loop-head : goal.invariant-loop-head
invariant-loop-head g l = record {
  can_next : (goal.iterator-loop-head g).can_next l.head-iterator;
  is_finite : (goal.iterator-loop-head g).is_finite l.head-iterator;
  given : All (λ head. IsGiven l.image head) l.head-iterator;
  read : All (IsRead l.image) l.keyed.items;
  keys : All (IsKeyed l.image []) l.keyed.items;
  fronts : HaveFront l.image l.front l.keyed.items;
  done : map (λ m. head_of l.image m.offset) l.keyed.items ++ l.head-iterator ≡ l.fn.members;
}
