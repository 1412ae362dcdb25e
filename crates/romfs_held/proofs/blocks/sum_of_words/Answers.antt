use Rattle.std.proofs.Common.{arith}
use Rattle.romfs_held.specs.Blocks.{filled}
use Rattle.romfs_held.proofs.Fronts.{filled_long}
use Rattle.romfs_held.proofs.Sums.{sum_goes_on, sum_ends}
use Rattle.romfs_held.proofs.blocks.sum_of_words.Goals as goal

pub loop-done-preserved : goal.loop-done-preserved
loop-done-preserved c =
    let a = filled c.args.size c.args.blocks.now.all.now c.args.bytes.now in
    let e = filled_long c.args.size c.args.blocks.now.all.now c.args.bytes.now in
    record {
      within = omega arith;
      sum = sum_goes_on a c.args.at c.args.len (omega arith) _ _ _ _ _ c.loop-done.invariant.within c.sum_of_some-some.ensures
          (omega arith) c.loop-done.invariant.sum;
    }

pub returns : goal.returns
returns c =
    let a = filled c.args.size c.args.blocks.now.all.now c.args.bytes.now in
    let e = filled_long c.args.size c.args.blocks.now.all.now c.args.bytes.now in
    sum_ends a c.args.at c.args.len (omega arith) _ _ (omega arith) (omega arith) (omega arith) c.loop-done.invariant.sum
