use Rattle.std.proofs.Common.{rules, arith}
use Rattle.devices.proofs.Given.{given_more}
use Rattle.devices.proofs.filling.fill.Goals as goal

pub loop-done-preserved : goal.loop-done-preserved
loop-done-preserved g c = record {
  within = search rules;
  given = given_more (g.S.Contents.source c.args.source.now) _ _ _ _ _ _ c.loop-done.invariant.within
      (omega (arith, c.in_ok-count.ensures.bound)) c.loop-done.invariant.given
      c.in_ok-count.ensures.given.0;
}
