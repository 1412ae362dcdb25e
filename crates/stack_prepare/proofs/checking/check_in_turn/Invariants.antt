use Rattle.std.specs.Vec.Iter.{into_iter_items}
use Rattle.stack_prepare.proofs.Checked.{AreTaken}
use Rattle.stack_prepare.proofs.checking.check_in_turn.Given as goal

-- the images so far keep the rules, and their accessible bytes, rows and lists were kept
abbrev pub invariant-loop-image : goal.invariant-loop-image
invariant-loop-image g l = record {
  can_next : (goal.iterator-loop-image g).can_next l.image-iterator;
  is_finite : (goal.iterator-loop-image g).is_finite l.image-iterator;
  done : AreTaken l.profile l.fn.images.items (into_iter_items l.image-iterator) l.checked.items l.rows.items
      l.lists.items;
}
