use Rattle.std.proofs.Common.{◌≡◌, ap, subst, []}
use Rattle.romfs_format.specs.declared.head.Head.{Head}
use Rattle.romfs_format.specs.Fields.{root}
use Rattle.layer_tree.specs.Reading.{AreBranchesOf}
use Rattle.layer_tree.proofs.Layered.{root_stays, root_kept, tree_of_layer}
use Rattle.layer_tree.proofs.reading.tree_of.Goals as goal

pub invariant_of-result : goal.invariant_of-result
invariant_of-result g c =
    let a = c.args.image.now in
    let e = c.in_ok-entries.entries in
    let k = c.in_ok-entries.marks in
    let at : c.root.result.offset ≡ root a = ap (λ (x : Head). x.offset) c.root.ensures.value in
    let made = subst (λ h. AreBranchesOf a c.args.layer h [] e k) at c.in_ok-entries.ensures.made in (
      root_stays a c.root.ensures.sound c.args.layer e k made.entries made.exact,
      root_kept a c.root.ensures.sound c.args.layer e k made.entries made.exact,
    )

pub returns : goal.returns
returns g c =
    let a = c.args.image.now in
    let e = c.in_ok-entries.entries in
    let k = c.in_ok-entries.marks in
    let at : c.root.result.offset ≡ root a = ap (λ (x : Head). x.offset) c.root.ensures.value in
    let made = subst (λ h. AreBranchesOf a c.args.layer h [] e k) at c.in_ok-entries.ensures.made in
    tree_of_layer a c.root.ensures.sound c.args.layer e k made.entries made.exact
