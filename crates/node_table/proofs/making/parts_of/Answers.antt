use Rattle.node_table.specs.Walks.{walk_of}
use Rattle.node_table.proofs.Counting.{Numbers}
use Rattle.node_table.proofs.FirstBranches.{WalksTree, firsts_agree, firsts_stand, walked_all}
use Rattle.node_table.proofs.making.parts_of.Goals as goal

pub make-requires : goal.make-requires
make-requires g c =
    let root = c.root-root.result.now in
    let visits = c.walk.new.out.visits.items in
    let all = walked_all root _ (walk_of c.walk.new.out) c.in_ok-all.ensures c.in_ok-walk.ensures in
    let numbered = rw c.deref.ensures.value at c.in_ok-numbered.ensures in
    let held : Numbers = record { first = numbered.0; starts = _; paths = _; numbers = _ } in
    let walk : WalksTree c.args.images.now c.args.tree.now root visits c.walk.new.out.above.items held = record {
      tree = c.requires.tree;
      sound = c.requires.sound;
      whole = c.root-root.ensures;
      first = all.0;
      walked = all.1;
      numbered = numbered.1;
    } in (
      held.first,
      firsts_agree _ _ _ _ _ held walk,
      firsts_stand _ _ _ _ _ held walk _ all.2,
    )
