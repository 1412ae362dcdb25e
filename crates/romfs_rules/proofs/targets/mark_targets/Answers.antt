use Rattle.std.proofs.Common.{subst, refl, arith}
use Rattle.std.proofs.lemmas.Bool.{false≢true}
use Rattle.romfs_rules.proofs.Slots.{clear_gap}
use Rattle.romfs_rules.proofs.Destined.{Reaches, none_reached, passes, skips, skipped_to, all_targets}
use Rattle.romfs_rules.proofs.targets.mark_targets.Goals as goal
use Rattle.romfs_rules.proofs.targets.mark_targets.Goals.{then-is_hard_link+then-is_some_member, else-is_hard_link, else-is_hard_link-via-then-is_hard_link+else-is_some_member, else-is_hard_link-via-else-is_hard_link}

pub is_some_member-requires-clause-slot : goal.is_some_member-requires-clause-slot
is_some_member-requires-clause-slot g c = record {
  inside = (c.is_hard_link.ensures.0 c.if-is_hard_link.true).0;
  aligned = omega arith;
}

pub loop-slot-preserved : goal.loop-slot-preserved
loop-slot-preserved g c =
    let image = c.args.volume.now.bytes.now in
    let slot = c.in-Some.slot in
    let marks = c.loop-slot.marks in
    let n = c.in-Some.ensures.next in
    let h = n.high in
    let before = skipped_to image marks (clear_gap c.requires.chains.headers n.low n.clear) c.loop-slot.invariant.reaches in
    record {
      low = omega arith;
      reaches = elim c.if-is_hard_link.branch [
        | then-is_hard_link+then-is_some_member w ↦ rw (w.marks-is)
            (passes image slot marks w.mark_destinations.new.marks (w.if-is_some_member.ensures.0 refl)
            w.mark_destinations.ensures.follows w.mark_destinations.ensures.closed before)
        | else-is_hard_link w ↦ (rw (w.marks-is) (skips image slot marks (λ x. elim w.else-is_hard_link.branch [
          | else-is_hard_link-via-then-is_hard_link+else-is_some_member v ↦ false≢true (v.if-is_some_member.ensures.1 x.1)
          | else-is_hard_link-via-else-is_hard_link v ↦ false≢true (v.if-is_hard_link.ensures.1 x.0)
        ]) before))
      ];
    }

pub returns : goal.returns
returns g c =
    let image = c.args.volume.now.bytes.now in
    all_targets image c.loop-slot.marks (subst (λ n. Reaches image n c.loop-slot.marks) c.requires.chains.headers.sized
    (skipped_to image c.loop-slot.marks (clear_gap c.requires.chains.headers c.loop-slot.invariant.low c.in_default.ensures.next)
    c.loop-slot.invariant.reaches))

pub loop-slot-init : goal.loop-slot-init
loop-slot-init g c = record { low = omega arith; reaches = none_reached c.args.volume.now.bytes.now _ c.in_ok-marks.ensures }

pub loop-slot-smaller : goal.loop-slot-smaller
loop-slot-smaller g c = let n = c.in-Some.ensures.next in let l = n.low in let h = n.high in omega arith

pub mark_destinations-requires-clause-sized : goal.mark_destinations-requires-clause-sized
mark_destinations-requires-clause-sized g c = c.loop-slot.invariant.reaches.sized

pub mark_destinations-requires-clause-closed : goal.mark_destinations-requires-clause-closed
mark_destinations-requires-clause-closed g c = c.loop-slot.invariant.reaches.closed

pub mark_destinations-requires-clause-from : goal.mark_destinations-requires-clause-from
mark_destinations-requires-clause-from g c =
    let small = c.args.volume.now.keeps.small in
    let inside = (c.is_hard_link.ensures.0 c.if-is_hard_link.true).0.1 in
    omega arith
