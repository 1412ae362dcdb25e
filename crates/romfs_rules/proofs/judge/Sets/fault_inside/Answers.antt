use Rattle.std.proofs.Common.{◌*◌, arith, length, refl}
use Rattle.romfs_rules.specs.Headers.{IsAsked}
use Rattle.romfs_rules.specs.Judge.{KeepsBelow}
use Rattle.romfs_rules.proofs.Slots.{clear_gap, cleared_root}
use Rattle.romfs_rules.proofs.Verdict.{asked_root, asked_next, scan_more, scanned_to, scan_all, at_root, at_slot, root_kept}
use Rattle.romfs_rules.proofs.judge.Sets.fault_inside.Given.{Over}
use Rattle.romfs_rules.proofs.judge.Sets.fault_inside.Goals.{In-Some-next_of_either}
use Rattle.romfs_rules.proofs.judge.Sets.fault_inside.Goals as goal

pub header-requires : goal.header-requires
header-requires g c = rw (← c.self.view_is) (asked_root c.args.profile _ c.self.inside.volume.now.keeps _ c.self.inside.volume.now.rooted)

pub returns-in-Some : goal.returns-in-Some
returns-in-Some g c =
    let e = c.header.ensures in
    rw (← c.self.view_is) (at_root c.args.profile _ c.self.inside.volume.now.keeps c.in-Some.fault _
    c.self.inside.volume.now.rooted (rw (e.image, e.at, ← c.self.view_is) at c.in-Some.ensures))

pub loop-slot-init : goal.loop-slot-init
loop-slot-init g c =
    let a = c.self.inside.volume.now.bytes.now in
    let t = c.self.inside.volume.now.rooted in
    let k = cleared_root a in
    let v = c.self.inside.volume.now.keeps.inside in
    let s = c.self.invariant.chains.headers.sized in
    let e = c.header.ensures in
    rw (← c.self.view_is) (record {
      behind = omega arith;
      low = omega arith;
      keeps = root_kept c.args.profile a c.self.inside.volume.now.keeps _ c.self.inside.volume.now.root t refl
          (rw (e.image, e.at, ← c.self.view_is) at c.in_default.ensures);
    })

next : (g : Over) (c : In-Some-next_of_either g)
    → IsAsked c.args.self.now (c.in-Some-next_of_either.slot * 16) × KeepsBelow c.args.profile c.args.self.now
    (c.in-Some-next_of_either.slot * 16)
next g c =
    let l = rw (← c.self.view_is) at c.loop-slot.invariant in
    rw (← c.self.view_is) (asked_next c.args.profile _ c.self.inside.volume.now.keeps c.self.invariant.chains.headers
    c.self.invariant.targets l.behind l.keeps c.in-Some-next_of_either.ensures.next)

pub header-requires-in-Some-next_of_either : goal.header-requires-in-Some-next_of_either
header-requires-in-Some-next_of_either g c = (next g c).0

pub returns-in-Some-fault : goal.returns-in-Some-fault
returns-in-Some-fault g c =
    let e = c.header-in-Some-next_of_either.ensures in
    let n = next g (goal.at.returns-in-Some-fault g c).In-Some-next_of_either in
    at_slot c.args.profile _ (rw c.self.view_is at c.self.inside.volume.now.keeps) c.in-Some-fault.fault _ n.0 n.1
    (rw (e.image, e.at) at c.in-Some-fault.ensures)

pub loop-slot-preserved : goal.loop-slot-preserved
loop-slot-preserved g c =
    let e = c.header-in-Some-next_of_either.ensures in
    let n = next g (goal.at.loop-slot-preserved g c).In-Some-next_of_either in
    let l = c.loop-slot.invariant.behind in
    let low = c.in-Some-next_of_either.ensures.next.low in
    let high = c.in-Some-next_of_either.ensures.next.high in
    record {
      behind = omega arith;
      low = omega arith;
      keeps = scan_more c.args.profile _ (rw c.self.view_is at c.self.inside.volume.now.keeps) c.in-Some-next_of_either.slot n.1
          (rw (e.image, e.at) at c.in_default-fault.ensures);
    }

pub returns : goal.returns
returns g c =
    let l = rw (← c.self.view_is) at c.loop-slot.invariant in
    let headers = c.self.inside.chains.now.headers in
    let d = c.in_default-next_of_either.ensures.next in
    let s = c.self.invariant.chains.headers.sized in
    let v = c.self.inside.volume.now.keeps in
    rw (← c.self.view_is) (scan_all c.args.profile _ v (length headers) (omega arith)
    (scanned_to c.args.profile _ v l.behind (omega arith) (clear_gap c.self.invariant.chains.headers l.low d.0)
    (clear_gap c.self.invariant.targets l.low d.1) l.keeps))
