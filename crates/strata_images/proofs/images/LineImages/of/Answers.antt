use Rattle.std.proofs.Common.{◌≡◌, length, map, arith, refl}
use Rattle.std.specs.Vec.Iter.{into_iter_items}
use Rattle.strata_images.specs.Images.{files_of}
use Rattle.strata_images.proofs.TakenApart.{all_done, one_file, one_held}
use Rattle.strata_images.proofs.images.LineImages.of.Goals as goal

pub loop-image-preserved : goal.loop-image-preserved
loop-image-preserved g c = record {
  can_next = tt;
  is_finite = tt;
  held_are = one_held (λ image. image.held) _ _ _ _ _ c.in-Some.image c.loop-image.invariant.held_are c.in-Some.ensures.steps.0
      c.in_ok-push.ensures.items;
  files_are = one_file _ _ _ _ _ c.in-Some.image c.loop-image.invariant.files_are c.in-Some.ensures.steps.0 c.in_ok-add.ensures;
}

pub returns : goal.returns
returns g c =
    let left = into_iter_items c.loop-image.image-iterator in
    let none : length left ≡ 0 = omega (arith, c.in-None.ensures.steps.0, c.loop-image.image-iterator.rest.ok) in
    record {
      held_are = all_done (map (λ image. image.held)) _ _ left refl c.loop-image.invariant.held_are none;
      files_are = all_done files_of _ _ left refl c.loop-image.invariant.files_are none;
    }
