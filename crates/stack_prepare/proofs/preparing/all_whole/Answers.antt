use Rattle.std.proofs.Common.{◌∙◌, sym, ap, map}
use Rattle.romfs_held.specs.declared.image.HeldImage.TheVariants.{Whole}
use Rattle.stack_prepare.proofs.Stacked.{one_held}
use Rattle.stack_prepare.proofs.preparing.all_whole.Goals as goal

pub loop-bytes-preserved : goal.loop-bytes-preserved
loop-bytes-preserved g c = record {
  can_next = tt;
  is_finite = tt;
  done = rw c.in_ok-push.ensures.items
      (one_held Whole _ _ _ _ c.in-Some.bytes c.loop-bytes.invariant.done c.in-Some.ensures.steps.0);
}
