use borrow.Author.Count.{falls}
use Rattle.std.proofs.Common.{◌≡◌, subst, inl, inr, ◌≤◌, length, reverse, get_or, true, false, arith}
use Rattle.romfs_sets.specs.Climb.{IsFound, findings}
use Rattle.romfs_sets.proofs.Rounds.{closed, left, drop_past, leads_in, marked_inside, unmarked}
use Rattle.romfs_sets.proofs.climb.enter_all.Given.{Over}
use Rattle.romfs_sets.proofs.climb.enter_all.Goals as goal

pub gather-requires-clause-fresh : goal.gather-requires-clause-fresh
gather-requires-clause-fresh g c = ((rw c.deref.ensures.value at c.seek-start.ensures).walk _
    (closed c.requires.found) c.requires.walked (unmarked c.args.found.now.entered.items c.args.from _
    (let e = c.requires.found.compared.sized in omega arith) c.index.ensures c.if-index.false)).fresh

pub gather-requires-clause-cycle : goal.gather-requires-clause-cycle
gather-requires-clause-cycle g c = (rw c.deref.ensures.value at c.seek-start.ensures).cycle _
    (closed c.requires.found) c.requires.walked (unmarked c.args.found.now.entered.items c.args.from _
    (let e = c.requires.found.compared.sized in omega arith) c.index.ensures c.if-index.false)

pub loop-turn-preserved : goal.loop-turn-preserved
loop-turn-preserved g c = record {
  found = rw c.deref-in-loop-turn.ensures.value at c.in_ok-climb.ensures.found;
  kept = record { each = λ x m. c.in_ok-climb.ensures.kept.each x (c.loop-turn.invariant.kept.each x m) };
}

pub returns-clause-found : goal.returns-clause-found
returns-clause-found g c =
    let past : length c.in_ok-cycle.cycle.items ≤ c.loop-turn.turn = omega (arith, c.in_ok-cycle.cycle.ok.0) in
    left _ _ _ _ _ (subst (λ x. IsFound c.args.graph.now.next.items c.args.graph.now.class.items
    (reverse c.in_ok-cycle.cycle.items) x (findings c.loop-turn.found)) (drop_past c.in_ok-cycle.cycle.items c.loop-turn.turn past)
    c.loop-turn.invariant.found) c.clear.ensures

pub returns-clause-kept : goal.returns-clause-kept
returns-clause-kept g c = record {
  each = λ x m. rw c.clear.ensures.entered (c.loop-turn.invariant.kept.each x (c.in_ok-cycle.ensures.kept.each x m));
}

start_entered : (g : Over) (c : goal.After-drop-cycle-2 g) → get_or c.clear.new.found.entered.items c.seek-start.result false ≡ true
start_entered g c =
    let r = c.in_ok-cycle.ensures.gathered in
    rw c.clear.ensures.entered (c.loop-turn.invariant.kept.each _ (r.all _ r.start))

pub returns-clause-walked : goal.returns-clause-walked
returns-clause-walked g c =
    let w = (rw c.deref.ensures.value at c.seek-start.ensures).walk _ (closed c.requires.found)
    c.requires.walked (unmarked c.args.found.now.entered.items c.args.from _
    (let e = c.requires.found.compared.sized in omega arith) c.index.ensures c.if-index.false) in
    record {
      each = λ x m. elim (w.left x m) [
        | inl e ↦ (returns-clause-kept g c).each x e
        | inr a ↦ (
            let i = marked_inside c.seek-start.new.visited x m in
            let s = c.seek-start.auto.visited in
            leads_in _ _ c.args.graph.now.leads (closed (returns-clause-found g c)) (omega arith) a (start_entered g c))
      ];
    }

pub returns-clause-entered : goal.returns-clause-entered
returns-clause-entered g c =
    let w = (rw c.deref.ensures.value at c.seek-start.ensures).walk _ (closed c.requires.found)
    c.requires.walked (unmarked c.args.found.now.entered.items c.args.from _
    (let e = c.requires.found.compared.sized in omega arith) c.index.ensures c.if-index.false) in
    elim w.leads [
      | inl e ↦ subst (λ x. get_or c.clear.new.found.entered.items x false ≡ true) e (start_entered g c)
      | inr a ↦ leads_in _ _ c.args.graph.now.leads (closed (returns-clause-found g c)) c.requires.from a (start_entered g c)
    ]

pub loop-turn-smaller : goal.loop-turn-smaller
loop-turn-smaller g c = falls _ _ c.loop-turn-test.true

pub loop-turn-init : goal.loop-turn-init
loop-turn-init g c = record { found = c.in_ok-cycle.ensures.gathered.right; kept = record { each = λ x m. m } }

pub climb-requires-clause-found : goal.climb-requires-clause-found
climb-requires-clause-found g c = rw c.deref-in-loop-turn.ensures.value c.loop-turn.invariant.found

pub climb-requires-clause-cycle : goal.climb-requires-clause-cycle
climb-requires-clause-cycle g c = rw c.deref-in-loop-turn.ensures.value c.in_ok-cycle.ensures.gathered.is
