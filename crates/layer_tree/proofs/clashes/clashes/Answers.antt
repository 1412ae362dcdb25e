use Rattle.std.proofs.Common.{refl}
use Rattle.layer_tree.proofs.Clashing.{folders}
use Rattle.layer_tree.proofs.clashes.clashes.Goals as goal

pub returns : goal.returns
returns g c = rw c.new.ensures (record {
  uncut = refl;
  at = folders g.T.Cuts.removed c.args.files.now c.args.others.now c.children.result.now c.children-2.result.now
      c.in_ok-marks.marks.items c.in_ok-name.name _ c.children.ensures.below c.children-2.ensures.below c.requires refl refl
      c.in_ok-marks.ensures;
})
