use Rattle.std.proofs.Common.{refl, subst}
use Rattle.romfs_rules.proofs.Lists.{none_left}
use Rattle.romfs_rules.proofs.Closure.{Walked, begun, all_marked, step_stale, less_stale, step_fresh, less_fresh}
use Rattle.romfs_rules.proofs.chains.ChainWalk.finish.Goals as goal

pub loop-word-init : goal.loop-word-init
loop-word-init g c =
    begun c.args.volume.now.bytes.now c.args.self.now.todo.items c.args.self.now.marks c.requires.starts c.requires.unmarked

pub loop-word-preserved-then-not-is_fresh : goal.loop-word-preserved-then-not-is_fresh
loop-word-preserved-then-not-is_fresh g c =
    step_stale _ _ _ _ _ c.in-Some.ensures.items c.loop-word.invariant (c.if-not-is_fresh.ensures.stale refl)

pub loop-word-smaller-then-not-is_fresh : goal.loop-word-smaller-then-not-is_fresh
loop-word-smaller-then-not-is_fresh g c = less_stale _ _ _ _ _ c.in-Some.ensures.items c.loop-word.invariant

pub loop-word-preserved : goal.loop-word-preserved
loop-word-preserved g c =
    let f = c.if-not-is_fresh.ensures.fresh refl in
    rw c.insert.ensures (step_fresh _ _ _ _ _ c.in-Some.ensures.items c.loop-word.invariant _ c.in_ok-follow.ensures f.1 f.0)

pub loop-word-smaller : goal.loop-word-smaller
loop-word-smaller g c =
    let f = c.if-not-is_fresh.ensures.fresh refl in
    rw c.insert.ensures (less_fresh _ _ _ _ _ c.in-Some.ensures.items c.loop-word.invariant _ c.in_ok-follow.ensures f.1 f.2)

pub returns : goal.returns
returns g c =
    all_marked c.args.volume.now.bytes.now c.loop-word.self.marks
    (subst (λ x. Walked c.args.volume.now.bytes.now x c.loop-word.self.marks)
    (none_left c.loop-word.self.todo.items c.pop.new.self.items _ c.in_default.ensures.items
    c.in_default.ensures.rest c.in_default.ensures.cases.0) c.loop-word.invariant)
