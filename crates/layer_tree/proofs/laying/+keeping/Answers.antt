use Rattle.std.proofs.Common.{rules, ◌≡◌, sym, refl, None}
use Rattle.std.proofs.lemmas.List.{append-nil, nil_from_length}
use Rattle.layer_paths.specs.Rows.{spread}
use Rattle.layer_paths.proofs.Merging.{shown, some_shown, nothing_shown}
use Rattle.layer_tree.proofs.Stepping.{keeping_begun, keeping_ended, untouched, kept_or_not, mark_measure, shorter, some_first, all_cut, alone, inside, kept_first, with_children}
use Rattle.layer_tree.proofs.Picking.{picking_begun, picking_ended, one_more, next_measure, in_gap, cut_at, at_place_if}
use Rattle.layer_tree.proofs.laying.+keeping.Goals as goal

pub kept_below-loop-low-init : goal.kept_below-loop-low-init
kept_below-loop-low-init g t c =
    rw (c.from-lows.ensures.0, c.in_ok-kept.ensures.items) (keeping_begun _ _ c.requires.lows c.requires.marks.names)

pub kept_below-loop-low-preserved-in-Continue-branch-2 : goal.kept_below-loop-low-preserved-in-Continue-branch-2
kept_below-loop-low-preserved-in-Continue-branch-2 g t c =
    let p = c.in_ok-pass_first-in-None.ensures in
    let so_far = rw p.left at c.loop-low.invariant in
    let low : c.in-Some.low.now ≡ p.first = rw p.left at c.in-Some.ensures.lookup in
    let from = rw (c.name.ensures, low) at c.seek.ensures.rest in
    let none = rw (c.in-None.is, c.name.ensures, low) at c.seek.ensures.first in
    rw p.added (untouched _ _ _ _ _ _ _ so_far from none)

pub kept_below-keep_first-requires : goal.kept_below-keep_first-requires
kept_below-keep_first-requires g t c κs within =
    let some = some_shown c.loop-low.lows.items c.in-Some.low c.in-Some.ensures.item in
    let so_far = rw (shown _ c.in-Some.low c.in-Some.ensures.item) at c.loop-low.invariant in
    let from = rw c.name.ensures at c.seek.ensures.rest in
    let marked = rw (c.in-Some-found.is, c.name.ensures) at c.seek.ensures.first in
    let m = mark_measure _ _ _ _ _ _ _ so_far from _ marked in
    search (rules, some, m)

pub kept_below-loop-low-preserved : goal.kept_below-loop-low-preserved
kept_below-loop-low-preserved g t c =
    let p = c.in_ok-keep_first-in-Some-found.ensures in
    let so_far = rw p.first at c.loop-low.invariant in
    let low : c.in-Some.low.now ≡ p.low = rw p.first at c.in-Some.ensures.lookup in
    let from = rw (c.name.ensures, low) at c.seek.ensures.rest in
    let marked = rw (c.in-Some-found.is, c.name.ensures, low) at c.seek.ensures.first in
    rw p.added (kept_or_not _ _ _ _ _ _ _ so_far from _ p.left marked p.is)

pub kept_below-returns : goal.kept_below-returns
kept_below-returns g t c =
    keeping_ended _ _ _ _ _ c.loop-low.invariant (nothing_shown _ c.in_default.ensures.item)
    c.requires.lows c.requires.marks.names

pub keep_first-returns-then-value : goal.keep_first-returns-then-value
keep_first-returns-then-value g t c = record {
  low = c.drop_first.ensures.first;
  left = None;
  first = c.drop_first.ensures.left;
  is = all_cut c.args.mark.now (search rules);
  added = sym (append-nil c.args.kept.now.items);
}

pub keep_first-returns : goal.keep_first-returns
keep_first-returns g t c =
    kept_first c.args.mark.now _ _ _ _ _ _ _ c.take_children-children.ensures c.in_ok-left.ensures c.in_ok-pass_with.ensures

pub children_left-returns-then-value : goal.children_left-returns-then-value
children_left-returns-then-value g t c =
    rw c.new.ensures.items (record {
      forest = record { names = tt; each = tt };
      kept = λ n v. alone (record { name = n; value = v; below = spread c.args.children.items }) c.args.mark.now c.requires.uncut
          (search rules);
    })

pub children_left-returns : goal.children_left-returns
children_left-returns g t c = record {
  forest = c.in_ok-left.ensures.forest;
  kept = λ n v. inside (record { name = n; value = v; below = spread c.args.children.items }) c.args.mark.now
      c.args.children.items c.in_ok-left.left.items c.children.result.now c.requires.uncut (search rules) refl
      c.children.ensures.below c.in_ok-left.ensures;
}

pub kept_by_few-loop-mark-init : goal.kept_by_few-loop-mark-init
kept_by_few-loop-mark-init g t c = picking_begun c.args.lows.items c.args.marks.now c.requires.lows

pub kept_by_few-keep_by_one-requires : goal.kept_by_few-keep_by_one-requires
kept_by_few-keep_by_one-requires g t c κs within =
    let forest = c.loop-mark.invariant.kept.forest in
    let m = next_measure _ _ _ _ _ _ c.in-Some.ensures.cases.0 c.loop-mark.invariant in
    search (rules, forest, m)

pub kept_by_few-loop-mark-preserved : goal.kept_by_few-loop-mark-preserved
kept_by_few-loop-mark-preserved g t c =
    one_more _ _ _ _ _ _ c.in-Some.ensures.cases.0 c.loop-mark.invariant _ c.requires.marks.names c.in_ok-keep_by_one.ensures

pub keep_by_one-returns-in-Err : goal.keep_by_one-returns-in-Err
keep_by_one-returns-in-Err g t c =
    in_gap c.args.mark.now c.args.lows.now.items c.in-Err.field-0 c.requires
    (rw (c.name.ensures, c.deref.ensures.value) at c.in-Err.ensures)

pub keep_by_one-returns-in-Ok : goal.keep_by_one-returns-in-Ok
keep_by_one-returns-in-Ok g t c =
    rw c.remove.ensures.items
    (cut_at c.args.mark.now c.args.lows.now.items c.remove.result c.in-Ok.i c.requires
    (rw (c.name.ensures, c.deref.ensures.value) at c.in-Ok.ensures) (all_cut c.args.mark.now (search rules)))

pub keep_by_one-returns-in-Ok-2 : goal.keep_by_one-returns-in-Ok-2
keep_by_one-returns-in-Ok-2 g t c =
    at_place_if c.args.mark.now c.keep_inside.result c.args.lows.now.items c.index_mut.result.now c.keep_inside.new.low c.in-Ok.i
    c.requires (rw (c.name.ensures, c.deref.ensures.value) at c.in-Ok.ensures) c.index_mut.ensures.value c.keep_inside.ensures

pub keep_inside-returns : goal.keep_inside-returns
keep_inside-returns g t c =
    rw (c.set_children.ensures, c.take_children-children.ensures.left)
    (with_children c.args.low.now c.args.mark.now _ _ c.take_children-children.ensures.below c.in_ok-left.ensures)

pub kept_below-seek-requires : goal.kept_below-seek-requires
kept_below-seek-requires g t c = c.loop-low.invariant.rest_names

pub kept_below-pass_first-requires : goal.kept_below-pass_first-requires
kept_below-pass_first-requires g t c = some_shown c.loop-low.lows.items c.in-Some.low c.in-Some.ensures.item

pub kept_below-loop-low-smaller : goal.kept_below-loop-low-smaller
kept_below-loop-low-smaller g t c =
    shorter _ _ _ c.in_ok-keep_first-in-Some-found.ensures.first

pub kept_below-loop-low-smaller-in-Continue-branch-2 : goal.kept_below-loop-low-smaller-in-Continue-branch-2
kept_below-loop-low-smaller-in-Continue-branch-2 g t c =
    shorter _ _ _ c.in_ok-pass_first-in-None.ensures.left

pub keep_first-drop_first-requires : goal.keep_first-drop_first-requires
keep_first-drop_first-requires g t c = c.requires

pub keep_first-take_children-children-requires : goal.keep_first-take_children-children-requires
keep_first-take_children-children-requires g t c = c.requires

pub keep_first-pass_with-requires : goal.keep_first-pass_with-requires
keep_first-pass_with-requires g t c = record {
  some = some_first _ _ _ c.take_children-children.ensures.left;
  forest = c.in_ok-left.ensures.forest;
}

pub kept_by_few-returns : goal.kept_by_few-returns
kept_by_few-returns g t c =
    picking_ended _ _ _ _ (nil_from_length c.loop-mark.left.now (search rules)) c.loop-mark.invariant

pub keep_by_one-place-requires : goal.keep_by_one-place-requires
keep_by_one-place-requires g t c = rw c.deref.ensures.value c.requires.names

pub keep_inside-set_children-requires : goal.keep_inside-set_children-requires
keep_inside-set_children-requires g t c = c.in_ok-left.ensures.forest
