use Rattle.std.proofs.Common.{◌≡◌, ◌∙◌, ap, ◌+◌, ◌<◌, length, get_or, drop, reverse, arith}
use Rattle.std.proofs.lemmas.List.{get_or_read, length-set, length-append}
use Rattle.romfs_sets.specs.Climb.{IsSkipped, findings}
use Rattle.romfs_sets.proofs.Marks.{unmarked, marks_fall}
use Rattle.romfs_sets.proofs.Ascent.{IsUnderWay, IsRing, begins, skips, enters, leaves, ends, on_turn, drop_turn, reverse_push, keeps, popped, no_steps, step_fits}
use Rattle.romfs_sets.proofs.Graphs.{points, graph_of}
use Rattle.romfs_sets.proofs.climb.climb.Given.{Over}
use Rattle.romfs_sets.proofs.climb.climb.Goals.{After-skip_entered-at}
use Rattle.romfs_sets.proofs.climb.climb.Goals as goal

pub index-from-requires : goal.index-from-requires
index-from-requires g c =
    let i = c.requires.cycle.inside _ (on_turn c.args.cycle.now c.args.turn c.requires.turn) in
    let f = (graph_of c.args.graph.now).lists.firsts in
    omega (arith, c.args.graph.now.first.ok.0)

pub loop-found-init : goal.loop-found-init
loop-found-init g c =
    let f = graph_of c.args.graph.now in
    let o = on_turn c.args.cycle.now c.args.turn c.requires.turn in
    let i = c.requires.cycle.inside _ o in
    let e = get_or_read c.args.graph.now.first.items (get_or c.args.cycle.now c.args.turn 0)
    c.index-from.result.now (let k = f.lists.firsts in omega arith) c.index-from.ensures 0 in
    record {
      under_way = rw (c.new-steps.ensures.items, e) (begins _ f _ _ (record { is = c.requires.cycle; on = o }) _ _
          (rw (← drop_turn c.args.cycle.now c.args.turn c.requires.turn) c.requires.found));
      kept = record { each = λ x m. m };
      low = c.requires.found.lowest.sized ∙ f.classes.sized;
    }

-- the point of this turn is on the cycle
ring_of : (g : Over) (c : After-skip_entered-at g) → IsRing c.args.graph.now.next.items (reverse c.args.cycle.now)
    (get_or c.args.cycle.now c.args.turn 0)
ring_of g c = record { is = c.requires.cycle; on = on_turn c.args.cycle.now c.args.turn c.requires.turn }

-- from the next point that is not entered, the climb is under way
skipped : (g : Over) (c : After-skip_entered-at g) → IsUnderWay (points c.args.graph.now) (reverse c.args.cycle.now)
    (drop (c.args.turn + 1) c.args.cycle.now) (get_or c.args.cycle.now c.args.turn 0) c.skip_entered-at.result
    (reverse c.loop-found.steps.items) (findings c.loop-found.found)
skipped g c =
    let s : IsSkipped c.args.graph.now.sibling.items c.loop-found.found.entered.items c.loop-found.from
    c.skip_entered-at.result = rw (c.deref.ensures.value) at c.skip_entered-at.ensures.skipped in
    skips _ (graph_of c.args.graph.now) _ _ (ring_of g c) _ _ _ _ _ s c.loop-found.invariant.under_way

pub loop-found-smaller-then-at-len : goal.loop-found-smaller-then-at-len
loop-found-smaller-then-at-len g c =
    let fresh = rw (c.deref.ensures.value) at c.skip_entered-at.ensures.fresh in
    let s = c.args.graph.now.siblings in
    let v = c.loop-found.found.entered_sized in
    let w = c.loop-found.invariant.low in
    let k = marks_fall c.loop-found.found.entered.items c.skip_entered-at.result (omega arith) (fresh (omega arith)) in
    let u = ap unmarked c.enter-low.ensures.entered in
    let n = ap length c.in_ok-push.ensures.items ∙ length-append c.loop-found.steps.items _ in
    omega arith

pub loop-found-preserved-then-at-len : goal.loop-found-preserved-then-at-len
loop-found-preserved-then-at-len g c =
    let f = graph_of c.args.graph.now in
    let l = c.loop-found.invariant in
    let at = c.skip_entered-at.result in
    let ring = ring_of g (goal.at.loop-found-preserved-then-at-len g c).After-skip_entered-at in
    let w = skipped g (goal.at.loop-found-preserved-then-at-len g c).After-skip_entered-at in
    let i : at < length c.args.graph.now.next.items = omega arith in
    let e = get_or_read c.args.graph.now.first.items at c.index-from-then-at-len.result.now
    (let k = f.lists.firsts in omega arith) c.index-from-then-at-len.ensures 0 in
    record {
      under_way = rw (c.in_ok-push.ensures.items, reverse_push, e)
          (enters _ f _ _ ring _ (record { at = at; low = c.enter-low.result }) _ _ _ c.enter-low.ensures w);
      kept = rw c.enter-low.ensures.entered (keeps _ _ at (let v = c.loop-found.found.entered_sized in let w = l.low in
          omega arith) l.kept);
      low = ap length c.enter-low.ensures.low ∙ length-set c.loop-found.found.low.items _ _ ∙ l.low;
    }

pub leave-from-requires-clause-at : goal.leave-from-requires-clause-at
leave-from-requires-clause-at g c = step_fits (rw (popped _ _ _ c.in-Some.ensures.items) at c.loop-found.invariant.under_way)

pub loop-found-preserved : goal.loop-found-preserved
loop-found-preserved g c =
    let f = graph_of c.args.graph.now in
    let l = c.loop-found.invariant in
    let at = c.skip_entered-at.result in
    let ring = ring_of g (goal.at.loop-found-preserved g c).After-skip_entered-at in
    let w = skipped g (goal.at.loop-found-preserved g c).After-skip_entered-at in
    let e = c.leave-from.ensures in
    record {
      under_way = rw (e.next, e.low, e.entered, e.noted)
          (leaves _ f _ _ ring _ at _ _ _ (omega arith)
          (rw (popped _ _ _ c.in-Some.ensures.items) at w));
      kept = rw e.entered l.kept;
      low = ap length e.low ∙ length-set c.loop-found.found.low.items _ _ ∙ l.low;
    }

pub returns-in-None-clause-found : goal.returns-in-None-clause-found
returns-in-None-clause-found g c =
    let f = graph_of c.args.graph.now in
    let l = c.loop-found.invariant in
    let at = c.skip_entered-at.result in
    let ring = ring_of g (goal.at.returns-in-None-clause-found g c).After-skip_entered-at in
    let w = skipped g (goal.at.returns-in-None-clause-found g c).After-skip_entered-at in
    let n : length c.loop-found.steps.items ≡ 0 = (let z = c.in-None.ensures.cases.0 in omega (arith, c.loop-found.steps.ok.0)) in
    ends _ f _ _ ring _ at _ (omega arith) (rw (no_steps c.loop-found.steps.items n) at w)
