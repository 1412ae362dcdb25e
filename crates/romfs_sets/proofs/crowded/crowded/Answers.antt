use Rattle.std.proofs.Common.{arith, ap, ◌∙◌, length, false}
use Rattle.std.proofs.lemmas.List.{length-replicate}
use Rattle.romfs_sets.proofs.FilledSlots.{fell_none, fell_within, fell_beyond, all_fell}
use Rattle.romfs_sets.proofs.crowded.crowded.Goals as goal
use Rattle.romfs_sets.proofs.crowded.crowded.Goals.{then-slot-slots, else-slot-slots}

pub loop-key-init : goal.loop-key-init
loop-key-init g c = fell_none c.args.keys.now c.args.slots _ _
    (ap length c.in_ok-some.ensures ∙ length-replicate c.args.slots false)
    (ap length c.in_ok-crowded.ensures ∙ length-replicate c.args.slots false)

pub loop-key-preserved : goal.loop-key-preserved
loop-key-preserved g c = elim c.if-slot-slots.branch [
  | then-slot-slots w ↦ rw (w.some-is, w.crowded-is) (fell_within c.args.keys.now c.args.slots c.loop-key.some c.loop-key.crowded
      c.loop-key.key-index _ c.loop-key.invariant c.slot_of-slot.ensures _ _ (omega arith) w.fall.ensures)
  | else-slot-slots w ↦ rw (w.some-is, w.crowded-is) (fell_beyond c.args.keys.now c.args.slots c.loop-key.some c.loop-key.crowded
      c.loop-key.key-index _ c.loop-key.invariant c.slot_of-slot.ensures (omega arith))
]

pub returns : goal.returns
returns g c = record {
  level = c.loop-key.invariant.also;
  told = all_fell _ _ _ _ _ (omega arith) c.loop-key.invariant;
}
