use Rattle.std.proofs.Common.{◌≡◌, ◌∙◌, ◌*◌, ◌/◌, ap, subst, arith, length, false}
use Rattle.std.proofs.lemmas.List.{length-replicate}
use Rattle.romfs_rules.specs.Twice.{CountsBoth}
use Rattle.romfs_rules.proofs.Slots.{clear_gap, cleared_root, slot_behind, root_slot}
use Rattle.romfs_rules.proofs.Counted.{Tallied, Below, none_tallied, passes, skipped_to, all_twice}
use Rattle.romfs_rules.proofs.twice.mark_twice.Goals as goal

pub loop-slot-init : goal.loop-slot-init
loop-slot-init g c =
    let a = c.args.volume.now.bytes.now in
    let slot = c.args.volume.now.root / 16 in
    let e : c.args.volume.now.root ≡ slot * 16 = (let k = cleared_root a in let t = c.args.volume.now.rooted in omega arith) in
    let v = c.args.volume.now.keeps.inside in
    let s = c.requires.chains.headers.sized in
    let t = c.args.volume.now.rooted in
    record {
      behind = omega arith;
      low = omega arith;
      tallied = passes a slot c.in_ok-once.once c.in_ok-twice.twice c.count_links.new.once
          c.count_links.new.twice (subst (λ h. CountsBoth a h c.in_ok-once.once c.in_ok-twice.twice
          c.count_links.new.once c.count_links.new.twice) e c.count_links.ensures)
          (none_tallied a c.args.volume.now.keeps slot (omega arith) c.in_ok-once.once c.in_ok-twice.twice c.in_ok-once.ensures
          c.in_ok-twice.ensures);
    }

pub count_links-requires-clause-slot : goal.count_links-requires-clause-slot
count_links-requires-clause-slot g c = root_slot c.args.volume.now.bytes.now c.args.volume.now.keeps c.args.volume.now.root
    c.args.volume.now.rooted

pub count_links-requires-in-Some-clause-slot : goal.count_links-requires-in-Some-clause-slot
count_links-requires-in-Some-clause-slot g c =
    let n = c.in-Some.ensures.next in
    slot_behind c.args.volume.now.bytes.now c.args.chains.now.headers c.loop-slot.from c.in-Some.slot
    c.requires.chains.headers.sized c.loop-slot.invariant.behind n.low n.high

pub loop-slot-preserved : goal.loop-slot-preserved
loop-slot-preserved g c =
    let a = c.args.volume.now.bytes.now in
    let n = c.in-Some.ensures.next in
    let l = n.low in
    let h = n.high in
    let b = c.loop-slot.invariant.behind in
    record {
      behind = omega arith;
      low = omega arith;
      tallied = passes a c.in-Some.slot c.loop-slot.once c.loop-slot.twice c.count_links-in-Some.new.once
          c.count_links-in-Some.new.twice c.count_links-in-Some.ensures
          (skipped_to a c.args.volume.now.keeps c.loop-slot.once c.loop-slot.twice b
          (clear_gap c.requires.chains.headers l n.clear) c.loop-slot.invariant.tallied);
    }

pub returns : goal.returns
returns g c =
    let a = c.args.volume.now.bytes.now in
    all_twice a c.args.volume.now.keeps c.loop-slot.once c.loop-slot.twice
    (subst (λ n. Tallied a (Below a n) c.loop-slot.once c.loop-slot.twice) c.requires.chains.headers.sized
    (skipped_to a c.args.volume.now.keeps c.loop-slot.once c.loop-slot.twice c.loop-slot.invariant.behind
    (clear_gap c.requires.chains.headers c.loop-slot.invariant.low c.in_default.ensures.next) c.loop-slot.invariant.tallied))

pub loop-slot-smaller : goal.loop-slot-smaller
loop-slot-smaller g c = let n = c.in-Some.ensures.next in let l = n.low in let h = n.high in omega arith

pub count_links-requires-clause-once : goal.count_links-requires-clause-once
count_links-requires-clause-once g c = ap length c.in_ok-once.ensures ∙ length-replicate _ false

pub count_links-requires-clause-twice : goal.count_links-requires-clause-twice
count_links-requires-clause-twice g c = ap length c.in_ok-twice.ensures ∙ length-replicate _ false

pub count_links-requires-in-Some-clause-once : goal.count_links-requires-in-Some-clause-once
count_links-requires-in-Some-clause-once g c = c.loop-slot.invariant.tallied.once_sized

pub count_links-requires-in-Some-clause-twice : goal.count_links-requires-in-Some-clause-twice
count_links-requires-in-Some-clause-twice g c = c.loop-slot.invariant.tallied.twice_sized
