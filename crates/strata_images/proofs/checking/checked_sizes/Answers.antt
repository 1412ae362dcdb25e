use Rattle.std.proofs.Common.{◌≡◌, ◌∙◌, length, arith}
use Rattle.std.specs.Vec.Iter.{into_iter_items}
use Rattle.std.proofs.lemmas.Result.{IfOk-from_err}
use Rattle.romfs_files.specs.Opening.{loaded_bytes}
use Rattle.strata_images.proofs.Sizes.{all_sized, first_refused, none_sized, one_more}
use Rattle.strata_images.proofs.checking.checked_sizes.Goals as goal

pub loop-loaded-init : goal.loop-loaded-init
loop-loaded-init g c = record {
  can_next = tt;
  is_finite = tt;
  done = rw (c.in_ok-sizes.ensures.items, c.into_iter-loaded-iterator.ensures.into_iter_gives.0)
      (none_sized loaded_bytes c.args.profile c.args.images.items);
}

pub loop-loaded-preserved : goal.loop-loaded-preserved
loop-loaded-preserved g c =
    let good = c.in_ok-checked_size.ensures.ok in
    record {
      can_next = tt;
      is_finite = tt;
      done = rw c.in_ok-push.ensures.items
          (one_more c.loop-loaded.invariant.done c.in-Some.loaded _ c.in-Some.ensures.steps.0 _ good.0 good.1);
    }

pub returns-in_err-sizes-clause-ok : goal.returns-in_err-sizes-clause-ok
returns-in_err-sizes-clause-ok g c = IfOk-from_err c.from_residual.result _ c.from_residual.ensures.0

pub returns-in_err-checked_size-clause-ok : goal.returns-in_err-checked_size-clause-ok
returns-in_err-checked_size-clause-ok g c =
    IfOk-from_err c.from_residual-in_err-checked_size.result _ c.from_residual-in_err-checked_size.ensures.0

pub returns-in_err-push-clause-ok : goal.returns-in_err-push-clause-ok
returns-in_err-push-clause-ok g c = IfOk-from_err c.from_residual-in_err-push.result _ c.from_residual-in_err-push.ensures.0

pub returns-clause-ok : goal.returns-clause-ok
returns-clause-ok g c =
    let left = into_iter_items c.loop-loaded.loaded-iterator in
    let none : length left ≡ 0 = omega (arith, c.in-None.ensures.steps.0, c.loop-loaded.loaded-iterator.rest.ok) in
    all_sized loaded_bytes c.args.profile _ left _ c.loop-loaded.invariant.done none

pub returns-clause-err : goal.returns-clause-err
returns-clause-err g c = tt

pub returns-in_err-checked_size-clause-err : goal.returns-in_err-checked_size-clause-err
returns-in_err-checked_size-clause-err g c =
    first_refused c.loop-loaded.invariant.done c.in-Some.loaded _ c.in-Some.ensures.steps.0 _
    (c.len-image.ensures ∙ c.loop-loaded.sizes.ok.0)
    c.in_err-checked_size.field-0.0 c.in_err-checked_size.ensures.err c.from_residual-in_err-checked_size.result
    c.from_residual-in_err-checked_size.ensures.1
