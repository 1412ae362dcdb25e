use Rattle.std.proofs.Common.{◌≡◌, length, arith}
use Rattle.layer_tree.specs.Members.{members_in}
use Rattle.layer_tree.proofs.Building.{as_many, no_markers}
use Rattle.layer_tree.proofs.reading.markers_of.Goals as goal

pub returns-then-len-members : goal.returns-then-len-members
returns-then-len-members g c =
    let a = c.args.layer.now.image.now in
    let ms = c.args.members.now in
    let level : length c.args.below.now.entries.items ≡ length (members_in a ms) = omega (arith, as_many a ms) in
    rw c.new.ensures.items (no_markers a c.args.layer.now.number c.requires.built level)
