use Rattle.std.proofs.Common.{◌∙◌, sym, ap, ◌<◌, length, false, arith}
use Rattle.std.proofs.lemmas.List.{get_or_read, length-set}
use Rattle.romfs_sets.proofs.Marks.{unmarked, marks_fall}
use Rattle.romfs_sets.proofs.Ascent.{reverse_push}
use Rattle.romfs_sets.proofs.Rounds.{begins, enters, gathered}
use Rattle.romfs_sets.proofs.climb.gather.Given.{Over}
use Rattle.romfs_sets.proofs.climb.gather.Goals.{At-loop-found}
use Rattle.romfs_sets.proofs.climb.gather.Goals as goal

pub loop-found-init : goal.loop-found-init
loop-found-init g c =
    let f = c.args.graph.now in
    record {
      rounding = rw c.new-cycle.ensures.items (begins _ _ f.classes _ c.requires.cycle _ c.requires.fresh c.requires.found);
      inside = c.requires.from;
      low = c.requires.found.lowest.sized ∙ f.classes.sized;
    }

-- the point that the entering has come to has a mark
has_mark : (g : Over) (c : At-loop-found g) → c.loop-found.at < length c.loop-found.found.entered.items
has_mark g c =
    let a = c.loop-found.invariant.inside in
    let b = c.loop-found.found.entered_sized in
    let w = c.loop-found.invariant.low in
    omega arith

pub loop-found-smaller : goal.loop-found-smaller
loop-found-smaller g c =
    let l = c.loop-found.invariant in
    let at = c.loop-found.at in
    let i = has_mark g (goal.at.loop-found-smaller g c).At-loop-found in
    let e = get_or_read c.loop-found.found.entered.items at _ i c.index.ensures false in
    let k = marks_fall c.loop-found.found.entered.items at i (sym e ∙ c.loop-found-test.true) in
    let u = ap unmarked c.enter.ensures.entered in
    omega arith

pub loop-found-preserved : goal.loop-found-preserved
loop-found-preserved g c =
    let f = c.args.graph.now in
    let l = c.loop-found.invariant in
    let at = c.loop-found.at in
    let i = has_mark g (goal.at.loop-found-preserved g c).At-loop-found in
    let e = get_or_read c.args.graph.now.next.items at _ l.inside c.index-at.ensures 0 in
    record {
      rounding = rw (c.in_ok-push.ensures.items, reverse_push, e)
          (enters _ _ f.classes _ c.requires.cycle _ at _ _ _ _ c.enter.ensures l.rounding);
      inside = rw e (f.leads.each at l.inside);
      low = ap length c.enter.ensures.low ∙ length-set c.loop-found.found.low.items _ _ ∙ l.low;
    }

pub returns-clause-gathered : goal.returns-clause-gathered
returns-clause-gathered g c =
    let f = c.args.graph.now in
    let l = c.loop-found.invariant in
    let at = c.loop-found.at in
    let i = has_mark g (goal.at.returns-clause-gathered g c).At-loop-found in
    let e = get_or_read c.loop-found.found.entered.items at _ i c.index.ensures false in
    gathered _ _ f.classes _ c.requires.cycle _ at _ _ (c.loop-found.found.entered_sized ∙ l.low) (sym e ∙ c.loop-found-test.false)
    l.rounding
