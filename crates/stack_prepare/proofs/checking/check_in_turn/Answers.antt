use Rattle.std.proofs.Common.{◌≡◌, ◌+◌, length, map, subst, sym, refl, arith}
use Rattle.std.specs.Vec.Iter.{into_iter_items}
use Rattle.romfs_held.specs.Images.{held_bytes}
use Rattle.romfs_image.specs.Refusals.{IsRefusal}
use Rattle.stack_prepare.specs.declared.refusal.Refusal.TheVariants.{Layer}
use Rattle.stack_prepare.specs.Checking.{IsBroken}
use Rattle.stack_prepare.proofs.Checked.{all_checked, held_as, next_breaks, none_taken, one_more, taken_within}
use Rattle.stack_prepare.proofs.checking.check_in_turn.Goals as goal

pub loop-image-init : goal.loop-image-init
loop-image-init g c = record {
  can_next = tt;
  is_finite = tt;
  done = rw (
    c.into_iter-image-iterator.ensures.into_iter_gives.0,
    c.in_ok-checked.ensures.items,
    c.in_ok-rows.ensures.items,
    c.in_ok-lists.ensures.items,
  )
      (none_taken c.args.profile c.args.images.items);
}

pub loop-image-preserved : goal.loop-image-preserved
loop-image-preserved g c =
    let held = c.in-Ok.ensures in
    record {
      can_next = tt;
      is_finite = tt;
      done = rw (c.in_ok-push-in-Ok.ensures.items, c.in_ok-push-in-Ok-2.ensures.items, c.in_ok-push-in-Ok-3.ensures.items)
          (one_more c.loop-image.invariant.done c.in-Some.image _ c.in-Some.ensures.steps.0 c.in-Ok.sound c.in-Ok.its_rows
          c.in-Ok.its_lists (held_as c.in-Ok.sound _ _ held.ok.checked.0 held.whole) held.ok.rows_are held.ok.lists_are
          held.ok.checked.1);
    }

pub returns : goal.returns
returns g c =
    let none : length (into_iter_items c.loop-image.image-iterator) ≡ 0 = omega (
      arith,
      c.in-None.ensures.steps.0,
      c.loop-image.image-iterator.rest.ok,
    ) in (
      all_checked _ c.loop-image.invariant.done none refl refl refl,
      tt,
    )

pub returns-in-Err-Broken : goal.returns-in-Err-Broken
returns-in-Err-Broken g c =
    let image = c.in-Some.image in
    let number : c.len-in-loop-image.result ≡ length c.loop-image.checked.items = omega (
      arith,
      c.len-in-loop-image.ensures,
      c.loop-image.checked.ok,
    ) in
    let broken = subst (IsRefusal c.args.profile (held_bytes image)) c.in-Err-Broken.field-0-is c.in-Err-Broken.ensures.err in
    let why = next_breaks c.loop-image.invariant.done image _ c.in-Some.ensures.steps.0 c.args.first c.len-in-loop-image.result
    c.in-Err-Broken.fault number broken in (
      tt,
      subst (λ fault. IsBroken c.args.first c.args.profile (map held_bytes c.args.images.items)
          (Layer (c.args.first + c.len-in-loop-image.result) fault)) (sym c.in-Err-Broken.fault-is) why,
    )

pub overflow_cast-layer : goal.overflow_cast-layer
overflow_cast-layer g c =
    let taken = taken_within c.loop-image.invariant.done in
    omega (arith, c.len-in-loop-image.ensures, c.loop-image.checked.ok, c.requires)

pub overflow_add-layer : goal.overflow_add-layer
overflow_add-layer g c =
    let taken = taken_within c.loop-image.invariant.done in
    omega (arith, c.len-in-loop-image.ensures, c.loop-image.checked.ok, c.requires)

pub returns-in-Err-Memory : goal.returns-in-Err-Memory
returns-in-Err-Memory g c = (tt, tt)
