use Rattle.std.proofs.Common.{None, arith}
use Rattle.std.proofs.lemmas.Grind.{common_steps}
use Rattle.romfs_files.proofs.Loads.{one_more}
use Rattle.romfs_files.proofs.images.add_in_turn.Goals as goal

pub loop-at-preserved : goal.loop-at-preserved
loop-at-preserved g c = record {
  count = grind (arith, common_steps);
  read = one_more g.R.File.Read.remaining c.args.loading c.args.digests.now c.loop-at.at None c.loop-at.images.items c.push.new.self.items _
      (omega arith) (omega arith) c.loop-at.invariant.read c.in_ok-load_one.ensures.ok c.in_ok-push.ensures.items;
}
