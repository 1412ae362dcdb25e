use Rattle.std.proofs.Common.{rules, ◌∙◌, sym}
use Rattle.romfs_reader.proofs.Steps.{takes, goes, falls}
use Rattle.romfs_reader.proofs.members.member_from.Goals as goal

pub returns-then-not-is_passed_over : goal.returns-then-not-is_passed_over
returns-then-not-is_passed_over c =
    let t = takes c.args.image.now c.args.root c.args.directory c.loop-at.at c.loop-at.invariant.walk
    c.head_at-head.result c.head_at-head.ensures c.loop-at-test.true (search rules) in
    (sym c.loop-at.invariant.left ∙ t.0, t.1)

pub loop-at-smaller : goal.loop-at-smaller
loop-at-smaller c = falls c.args.image.now c.args.root c.args.directory c.loop-at.at c.loop-at.invariant.walk
    c.head_at-head.result c.head_at-head.ensures c.loop-at-test.true

pub loop-at-preserved : goal.loop-at-preserved
loop-at-preserved c =
    let t = goes c.args.image.now c.args.root c.args.directory c.loop-at.at c.loop-at.invariant.walk
    c.head_at-head.result c.head_at-head.ensures c.loop-at-test.true (search rules) in
    record { walk = t.1; left = t.0 ∙ c.loop-at.invariant.left }
