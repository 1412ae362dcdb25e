use Rattle.std.proofs.Common.{subst, refl}
use Rattle.romfs_rules.specs.Plain.{WalkState}
use Rattle.romfs_rules.proofs.Lists.{none_left}
use Rattle.romfs_rules.proofs.Slots.{inside_root}
use Rattle.romfs_rules.proofs.PlainWalk.{Descends, begun, steps, less, next_inside}
use Rattle.romfs_rules.proofs.PlainRules.{all_kept}
use Rattle.romfs_rules.proofs.plain.is_plain_image.Goals as goal

pub loop-folder-init : goal.loop-folder-init
loop-folder-init g c =
    begun c.args.volume.now.bytes.now _ _ (rw (c.in_ok-push.ensures.items, c.new-2.ensures.items, c.args.volume.now.rooted) refl)
    (inside_root c.args.volume.now.bytes.now c.args.volume.now.keeps) (rw c.len.ensures at c.in_ok-new.ensures)

pub is_plain_folder-requires-clause-sized : goal.is_plain_folder-requires-clause-sized
is_plain_folder-requires-clause-sized g c = let d = rw (← c.walk.view_is) at c.loop-folder.invariant in d.sized

pub is_plain_folder-requires-clause-inside : goal.is_plain_folder-requires-clause-inside
is_plain_folder-requires-clause-inside g c =
    next_inside c.args.volume.now.bytes.now c.walk.inside.todo.items c.pop.new.self.items c.in-Some.folder
    c.walk.inside.marks c.in-Some.ensures.items (rw (← c.walk.view_is) at c.loop-folder.invariant)

pub loop-folder-smaller : goal.loop-folder-smaller
loop-folder-smaller g c =
    let popped : WalkState = record {
      marks = c.walk.inside.marks;
      todo = c.pop.new.self.items;
      heads = c.walk.inside.heads.items;
      hashes = c.walk.inside.hashes.items;
    } in
    rw (← c.walk.view_is) (less c.args.volume.now.bytes.now c.walk.inside.todo.items c.in-Some.folder popped
    c.is_plain_folder.new.self c.in-Some.ensures.items (rw (← c.walk.view_is) at c.loop-folder.invariant)
    (c.in_ok-is_plain_folder.ensures c.if-not-branch.false))

pub loop-folder-preserved : goal.loop-folder-preserved
loop-folder-preserved g c =
    let popped : WalkState = record {
      marks = c.walk.inside.marks;
      todo = c.pop.new.self.items;
      heads = c.walk.inside.heads.items;
      hashes = c.walk.inside.hashes.items;
    } in
    steps c.args.volume.now.bytes.now c.walk.inside.todo.items c.in-Some.folder popped
    c.is_plain_folder.new.self c.in-Some.ensures.items (rw (← c.walk.view_is) at c.loop-folder.invariant)
    (c.in_ok-is_plain_folder.ensures c.if-not-branch.false)

pub returns : goal.returns
returns g c = λ _.
    all_kept c.args.volume.now.bytes.now c.args.volume.now.keeps c.walk.inside.marks
    (subst (λ x. Descends c.args.volume.now.bytes.now x c.walk.inside.marks)
    (none_left c.walk.inside.todo.items c.pop.new.self.items _ c.in_default.ensures.items
    c.in_default.ensures.rest c.in_default.ensures.cases.0) (rw (← c.walk.view_is) at c.loop-folder.invariant))
