use Rattle.std.proofs.Common.{◌∙◌, ap, refl, arith}
use Rattle.romfs_format.specs.Fields.{cleared}
use Rattle.romfs_rules.proofs.Destined.{marks_on, fewer}
use Rattle.romfs_rules.proofs.targets.mark_destinations.Goals as goal

pub loop-at-smaller : goal.loop-at-smaller
loop-at-smaller g c =
    let f = c.if-not-is_fresh.ensures.fresh refl in
    rw c.insert.ensures (fewer c.args.volume.now.bytes.now c.args.from c.loop-at.at c.args.marks.now c.loop-at.marks c.loop-at.invariant
    c.cleared-at.result (c.cleared-at.ensures ∙ ap cleared c.word.ensures) (c.loop-at-test.ensures.0 refl) f.0 (omega arith) f.2)

pub loop-at-preserved : goal.loop-at-preserved
loop-at-preserved g c =
    let f = c.if-not-is_fresh.ensures.fresh refl in
    rw c.insert.ensures (marks_on c.args.volume.now.bytes.now c.args.from c.loop-at.at c.args.marks.now c.loop-at.marks c.loop-at.invariant
    c.cleared-at.result (c.cleared-at.ensures ∙ ap cleared c.word.ensures) (c.loop-at-test.ensures.0 refl) f.0 (omega arith))
