use Rattle.std.proofs.Common.{◌≡◌, ◌++◌, map}
use Rattle.std.specs.Vec.Iter.{into_iter_items}
use Rattle.romfs_held.specs.declared.image.HeldImage.TheVariants.{Whole}
use Rattle.stack_prepare.proofs.preparing.all_whole.Given as goal

-- the images so far are held, and the others are left
abbrev pub invariant-loop-bytes : goal.invariant-loop-bytes
invariant-loop-bytes g l = record {
  can_next : (goal.iterator-loop-bytes g).can_next l.bytes-iterator;
  is_finite : (goal.iterator-loop-bytes g).is_finite l.bytes-iterator;
  done : map Whole l.fn.images.items ≡ l.held.items ++ map Whole (into_iter_items l.bytes-iterator);
}
