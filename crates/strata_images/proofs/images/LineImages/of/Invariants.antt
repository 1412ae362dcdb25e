use Rattle.std.proofs.Common.{◌≡◌, ◌++◌, map}
use Rattle.std.specs.Vec.Iter.{into_iter_items}
use Rattle.strata_images.specs.Images.{files_of}
use Rattle.strata_images.proofs.images.LineImages.of.Given as goal

-- the images so far are split, and the others are left
abbrev pub invariant-loop-image : goal.invariant-loop-image
invariant-loop-image g l =
    let left = into_iter_items l.image-iterator in
    record {
      can_next : (goal.iterator-loop-image g).can_next l.image-iterator;
      is_finite : (goal.iterator-loop-image g).is_finite l.image-iterator;
      held_are : map (λ image. image.held) l.fn.images.items ≡ l.held.items ++ map (λ image. image.held) left;
      files_are : files_of l.fn.images.items ≡ l.files.items ++ files_of left;
    }
