use Rattle.std.proofs.Common.{map}
use Rattle.std.specs.Vec.Iter.{into_iter_items}
use Rattle.romfs_files.specs.Opening.{loaded_bytes}
use Rattle.strata_images.proofs.Sizes.{AreSized}
use Rattle.strata_images.proofs.checking.checked_sizes.Given as goal

-- the images so far are good, and these are their sizes
abbrev pub invariant-loop-loaded : goal.invariant-loop-loaded
invariant-loop-loaded g l = record {
  can_next : (goal.iterator-loop-loaded g).can_next l.loaded-iterator;
  is_finite : (goal.iterator-loop-loaded g).is_finite l.loaded-iterator;
  done : AreSized loaded_bytes l.fn.profile (map loaded_bytes l.fn.images.items)
      (into_iter_items l.loaded-iterator) l.sizes.items;
}
