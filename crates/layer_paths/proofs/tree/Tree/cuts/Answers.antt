use Rattle.std.proofs.Common.{rules, ◌≡◌, map, true, false}
use Rattle.layer_paths.specs.Rows.{whole}
use Rattle.layer_paths.proofs.Cutting.{cut_by_themselves}
use Rattle.layer_paths.proofs.tree.Tree.cuts.Goals as goal

pub returns-else-cut_by : goal.returns-else-cut_by
returns-else-cut_by g c =
    let plain : c.is_plain.result ≡ true = search rules in
    let unmarked : c.cut_by.result ≡ false = search rules in
    rw (
      ← c.self.view_is,
      ← c.is_plain.ensures,
      plain,
      ← cut_by_themselves (whole c.self.inside.marks) (map (λ n. n.now) c.args.path.now),
      ← c.cut_by.ensures,
      unmarked,
    ) c.cut_by-else-cut_by.ensures
