use Rattle.std.proofs.Common.{ap, ◌∙◌, ◌/◌, refl, arith}
use Rattle.romfs_format.specs.Fields.{cleared}
use Rattle.romfs_sets.proofs.Marks.{marks_fall}
use Rattle.romfs_rules.proofs.RootWalk.{begun, steps, all_marked}
use Rattle.romfs_rules.proofs.chains.mark_root_chain.Goals as goal

pub loop-marks-init : goal.loop-marks-init
loop-marks-init g c = record {
  walked = rw c.cleared-at.ensures (begun c.args.volume.now.bytes.now c.args.volume.now.keeps c.args.volume.now.root c.word.result
      c.args.volume.now.rooted c.word.ensures c.in_ok-marks.marks c.in_ok-marks.ensures);
  narrow = omega arith;
}

pub loop-marks-smaller : goal.loop-marks-smaller
loop-marks-smaller g c =
    let f = c.loop-marks-test.ensures.fresh refl in
    let less = marks_fall c.loop-marks.marks (c.loop-marks.at / 16) f.1 f.2 in
    rw c.insert.ensures (omega arith)

pub loop-marks-preserved : goal.loop-marks-preserved
loop-marks-preserved g c =
    let f = c.loop-marks-test.ensures.fresh refl in
    record {
      walked = rw c.insert.ensures (steps c.args.volume.now.bytes.now c.loop-marks.marks c.loop-marks.at c.loop-marks.invariant.walked
          c.args.volume.now.keeps f.0 f.1
          c.cleared-at-in-loop-marks.result (c.cleared-at-in-loop-marks.ensures ∙ ap cleared c.word-in-loop-marks.ensures));
      narrow = omega arith;
    }

pub returns : goal.returns
returns g c = all_marked c.args.volume.now.bytes.now c.loop-marks.marks c.loop-marks.at c.loop-marks.invariant.walked
    (c.loop-marks-test.ensures.stale refl)
