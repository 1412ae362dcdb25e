use borrow.Author.Count.{falls}
use Rattle.std.proofs.Common.{◌≡◌, ◌∙◌, subst, length, refl, arith}
use Rattle.std.proofs.lemmas.List.{get_or_read, length-set}
use Rattle.romfs_sets.proofs.Ascent.{on_turn}
use Rattle.romfs_sets.proofs.Rounds.{IsClearing, clears_none, clears_more, clears_all, drop_past}
use Rattle.romfs_sets.proofs.climb.clear.Goals as goal

pub loop-at-init : goal.loop-at-init
loop-at-init g c = record {
  clearing = clears_none _ _ _ c.requires.low;
  low = c.requires.low.sized ∙ c.args.graph.now.classes.sized;
  entered = refl;
  noted = refl;
}

pub index-requires : goal.index-requires
index-requires g c =
    let i = c.requires.cycle.inside _ (on_turn c.args.cycle.now c.loop-at.at-index c.loop-at-test.true) in
    let s = c.args.graph.now.classes.sized in
    omega (arith, c.args.graph.now.class.ok.0)

pub index_mut-requires : goal.index_mut-requires
index_mut-requires g c =
    let i = c.requires.cycle.inside _ (on_turn c.args.cycle.now c.loop-at.at-index c.loop-at-test.true) in
    let s = c.args.graph.now.classes.sized in
    let e = get_or_read c.args.graph.now.class.items _ _ (omega arith) c.index.ensures 0 in
    let k = c.args.graph.now.classes.each _ i in
    omega (arith, c.loop-at.found.low.ok.0, c.loop-at.invariant.low)

pub loop-at-preserved : goal.loop-at-preserved
loop-at-preserved g c =
    let l = c.loop-at.invariant in
    let i = c.requires.cycle.inside _ (on_turn c.args.cycle.now c.loop-at.at-index c.loop-at-test.true) in
    let s = c.args.graph.now.classes.sized in
    let e = get_or_read c.args.graph.now.class.items _ _ (omega arith) c.index.ensures 0 in
    let k = c.args.graph.now.classes.each _ i in
    let n : c.len-none.result ≡ length c.args.graph.now.class.items = omega (arith, c.args.graph.now.next.ok.0) in
    record {
      clearing = rw (e, n) (clears_more _ _ c.args.cycle.now c.loop-at.at-index c.loop-at-test.true (omega arith) l.clearing);
      low = length-set c.loop-at.found.low.items _ _ ∙ l.low;
      entered = l.entered;
      noted = l.noted;
    }

pub returns : goal.returns
returns g c = record {
  low = clears_all _ _ (subst (λ x. IsClearing c.args.graph.now.class.items c.loop-at.found.low.items x)
      (drop_past c.args.cycle.now c.loop-at.at-index (omega arith)) c.loop-at.invariant.clearing);
  entered = c.loop-at.invariant.entered;
  noted = c.loop-at.invariant.noted;
}

pub loop-at-smaller : goal.loop-at-smaller
loop-at-smaller g c = falls _ _ c.loop-at-test.true
