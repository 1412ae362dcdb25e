use Rattle.std.proofs.Common.{◌≡◌, ◌/◌, false, subst, refl, arith, length, replicate}
use Rattle.std.proofs.lemmas.List.{length-replicate}
use Rattle.romfs_sets.proofs.Marks.{no_marks}
use Rattle.romfs_rules.proofs.Lists.{none_left}
use Rattle.romfs_rules.proofs.Descent.{Descends, begun, step_stale, less_stale, step_fresh, less_fresh, names_fit, found}
use Rattle.romfs_rules.proofs.depth.Descent.find_deep.Goals as goal

pub loop-next-init : goal.loop-next-init
loop-next-init g c =
    let image = c.args.volume.now.bytes.now in
    let marks : c.args.self.now.marks ≡ replicate (length image / 16) false = c.requires.unmarked in
    begun image c.requires.keeps c.push_some.new.todo.items c.args.self.now.marks c.first_of.result
    (rw marks (length-replicate (length image / 16) false))
    (no_marks c.args.self.now.marks (length image / 16) marks)
    (rw c.args.volume.now.rooted at c.first_of.ensures)
    (rw c.requires.empty at c.in_ok-push_some.ensures)

pub follow-requires-clause-names : goal.follow-requires-clause-names
follow-requires-clause-names g c =
    let f = c.if-not-is_fresh.ensures.fresh refl in
    let n = names_fit c.args.volume.now.bytes.now c.requires.keeps c.loop-next.self.todo.items c.pop.new.self.items
    c.loop-next.self.marks c.loop-next.deep c.in-Some.next c.in-Some.ensures.items c.loop-next.invariant f.1
    f.2 in
    let s = c.loop-next.invariant.sized in
    omega arith

pub loop-next-smaller : goal.loop-next-smaller
loop-next-smaller g c =
    let f = c.if-not-is_fresh.ensures.fresh refl in
    rw c.insert.ensures (less_fresh c.args.volume.now.bytes.now c.requires.keeps c.loop-next.self.todo.items
    c.pop.new.self.items c.loop-next.self.marks c.loop-next.deep c.in-Some.next c.in-Some.ensures.items
    c.loop-next.invariant f.1 f.2 c.follow.new.todo.items c.in_ok-follow.ensures)

pub loop-next-preserved : goal.loop-next-preserved
loop-next-preserved g c =
    let f = c.if-not-is_fresh.ensures.fresh refl in
    rw c.insert.ensures (step_fresh c.args.volume.now.bytes.now c.requires.keeps c.loop-next.self.todo.items
    c.pop.new.self.items c.loop-next.self.marks c.loop-next.deep c.in-Some.next c.in-Some.ensures.items
    c.loop-next.invariant f.1 f.2 c.follow.new.todo.items c.in_ok-follow.ensures c.note-deep.result
    c.note-deep.ensures)

pub loop-next-smaller-then-not-is_fresh : goal.loop-next-smaller-then-not-is_fresh
loop-next-smaller-then-not-is_fresh g c = less_stale c.args.volume.now.bytes.now c.requires.keeps c.loop-next.self.todo.items
    c.pop.new.self.items c.loop-next.self.marks c.loop-next.deep c.in-Some.next c.in-Some.ensures.items
    c.loop-next.invariant

pub loop-next-preserved-then-not-is_fresh : goal.loop-next-preserved-then-not-is_fresh
loop-next-preserved-then-not-is_fresh g c = step_stale c.args.volume.now.bytes.now c.requires.keeps c.loop-next.self.todo.items
    c.pop.new.self.items c.loop-next.self.marks c.loop-next.deep c.in-Some.next c.in-Some.ensures.items
    c.loop-next.invariant (c.if-not-is_fresh.ensures.stale refl)

pub returns : goal.returns
returns g c =
    found c.args.volume.now.bytes.now c.requires.keeps c.loop-next.self.marks c.loop-next.deep
    (subst (λ x. Descends c.args.volume.now.bytes.now x c.loop-next.self.marks c.loop-next.deep)
    (none_left c.loop-next.self.todo.items c.pop.new.self.items _ c.in_default.ensures.items
    c.in_default.ensures.rest c.in_default.ensures.cases.0) c.loop-next.invariant)
