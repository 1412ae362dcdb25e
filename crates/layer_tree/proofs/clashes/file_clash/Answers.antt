use Rattle.std.proofs.Common.{rules, refl}
use Rattle.layer_tree.proofs.Clashing.{file_alone, file_marked}
use Rattle.layer_tree.proofs.Stepping.{leaf_rises}
use Rattle.layer_tree.proofs.clashes.file_clash.Goals as goal

pub returns-then-is_bare : goal.returns-then-is_bare
returns-then-is_bare g c = file_alone g.T.Cuts.removed c.args.file.now c.args.other.now (search rules)

pub returns : goal.returns
returns g c = rw c.leaf.ensures (record {
  name = search rules;
  rising = leaf_rises _ refl;
  at = file_marked g.T.Cuts.removed c.args.file.now c.args.other.now c.in_ok-name.name _ refl c.requires;
})
