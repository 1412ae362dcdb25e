use Rattle.std.proofs.Common.{◌∙◌, sym, subst, length, arith, refl}
use Rattle.std.proofs.lemmas.Bool.{false≢true}
use Rattle.romfs_rules.specs.Ends.{AreWalkedEnds}
use Rattle.romfs_rules.proofs.Slots.{clear_gap}
use Rattle.romfs_rules.proofs.EndWalk.{found_more, found_same, found_to, found_all, found_none}
use Rattle.romfs_rules.proofs.ends.WalkedEnds.follow_all.Goals as goal

pub loop-slot-init : goal.loop-slot-init
loop-slot-init g c = record {
  low = omega arith;
  same = c.requires.same;
  found = rw (c.requires.unpassed, c.requires.empty)
      (found_none c.args.volume.now.bytes.now (length c.args.targets.now) c.requires.targets.sized);
}

pub loop-slot-preserved-then-not-is_left : goal.loop-slot-preserved-then-not-is_left
loop-slot-preserved-then-not-is_left g c =
    let n = c.in-Some.ensures.next in
    let h = n.high in
    let walks = c.loop-slot.self.walks in
    let ends = c.loop-slot.self.ends.items in
    let before = found_to walks.by_slot ends (clear_gap c.requires.targets n.low n.clear) c.loop-slot.invariant.found in
    record {
      low = omega arith;
      same = c.loop-slot.invariant.same;
      found = found_same c.args.volume.now.bytes.now walks.by_slot ends c.in-Some.slot before
          (λ x. false≢true (c.if-not-is_left.ensures.1 x.1));
    }

pub loop-slot-preserved : goal.loop-slot-preserved
loop-slot-preserved g c =
    let n = c.in-Some.ensures.next in
    let h = n.high in
    let walks = c.loop-slot.self.walks in
    let ends = c.loop-slot.self.ends.items in
    let before = found_to walks.by_slot ends (clear_gap c.requires.targets n.low n.clear) c.loop-slot.invariant.found in
    let known = rw c.deref.ensures.value at c.end_of-end.ensures.known in
    rw c.in_ok-push.ensures.items (record {
      low = omega arith;
      same = c.end_of-end.ensures.same ∙ c.loop-slot.invariant.same;
      found = found_more c.args.volume.now.bytes.now walks.by_slot ends c.in-Some.slot before c.end_of-end.new.walks.by_slot
          c.end_of-end.result known c.end_of-end.ensures.passes;
    })

pub returns : goal.returns
returns g c =
    let a = c.args.volume.now.bytes.now in
    let targets = c.args.targets.now in
    let s = c.requires.targets.sized in
    let all = found_to c.loop-slot.self.walks.by_slot c.loop-slot.self.ends.items
    (clear_gap c.requires.targets c.loop-slot.invariant.low c.in_default.ensures.next) c.loop-slot.invariant.found in
    subst (λ slots. AreWalkedEnds a (record { slots = slots; by_slot = c.loop-slot.self.walks.by_slot }) c.loop-slot.self.ends.items)
    (sym c.loop-slot.invariant.same)
    (found_all a c.loop-slot.self.walks.by_slot c.loop-slot.self.ends.items (length targets) all targets c.requires.targets
    (omega arith))

pub loop-slot-smaller-then-not-is_left : goal.loop-slot-smaller-then-not-is_left
loop-slot-smaller-then-not-is_left g c = let n = c.in-Some.ensures.next in let l = n.low in let h = n.high in omega arith

pub loop-slot-smaller : goal.loop-slot-smaller
loop-slot-smaller g c = let n = c.in-Some.ensures.next in let l = n.low in let h = n.high in omega arith

pub is_left-requires-clause-there : goal.is_left-requires-clause-there
is_left-requires-clause-there g c = rw c.loop-slot.invariant.same c.in-Some.ensures.next.is

pub is_left-requires-clause-slot : goal.is_left-requires-clause-slot
is_left-requires-clause-slot g c = let n = c.in-Some.ensures.next in let h = n.high in let s = c.requires.targets.sized in omega arith

pub end_of-end-requires-clause-aligned : goal.end_of-end-requires-clause-aligned
end_of-end-requires-clause-aligned g c = omega arith

pub end_of-end-requires-clause-hard : goal.end_of-end-requires-clause-hard
end_of-end-requires-clause-hard g c = (c.if-not-is_left.ensures.0 refl).0

pub end_of-end-requires-clause-target : goal.end_of-end-requires-clause-target
end_of-end-requires-clause-target g c = (c.requires.targets.each c.in-Some.slot c.in-Some.ensures.next.is).0

pub end_of-end-requires-clause-targets : goal.end_of-end-requires-clause-targets
end_of-end-requires-clause-targets g c = rw c.loop-slot.invariant.same c.requires.targets

pub end_of-end-requires-clause-sized : goal.end_of-end-requires-clause-sized
end_of-end-requires-clause-sized g c = c.loop-slot.invariant.found.sized

pub end_of-end-requires-clause-known : goal.end_of-end-requires-clause-known
end_of-end-requires-clause-known g c = rw c.deref.ensures.value c.loop-slot.invariant.found.known

pub end_of-end-requires-clause-few : goal.end_of-end-requires-clause-few
end_of-end-requires-clause-few g c =
    let few = c.loop-slot.invariant.found.few in
    let small = c.args.volume.now.keeps.small in
    let sized = c.requires.targets.sized in
    let h = c.in-Some.ensures.next.high in
    rw c.deref.ensures.value (omega arith)
