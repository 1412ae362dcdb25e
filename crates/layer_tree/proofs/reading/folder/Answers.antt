use Rattle.std.proofs.Common.{◌≡◌, ◌↔◌, sym, subst, ap, ◌∙◌, true}
use Rattle.std.specs.Prelude.{is_some}
use Rattle.romfs_format.specs.declared.head.Head.{Head}
use Rattle.romfs_format.specs.declared.head.Kind.TheVariants.{Directory}
use Rattle.romfs_format.specs.Fields.{kind}
use Rattle.stack_model.specs.Stack.{opaque}
use Rattle.layer_paths.specs.Rows.{named}
use Rattle.layer_tree.specs.Members.{members_in}
use Rattle.layer_tree.specs.Reading.{HasNamed, rest_of_opaque}
use Rattle.layer_tree.proofs.Building.{forests, white_forest}
use Rattle.layer_tree.proofs.Entering.{directory_stays, entered}
use Rattle.layer_tree.proofs.Folding.{IsMadeOfMembers, opaque_is_held, folder}
use Rattle.layer_tree.proofs.reading.folder.Goals as goal

pub has_opaque-opaque-requires : goal.has_opaque-opaque-requires
has_opaque-opaque-requires g c = rw c.deref.ensures.value (white_forest c.in_ok-whiteouts.ensures c.requires.members.by_name.rising).names

pub merge-requires : goal.merge-requires
merge-requires g c = record {
  low = (forests c.args.layer.now.image.now c.args.layer.now.number c.requires.below c.requires.members.by_name.rising).1;
  high = white_forest c.in_ok-whiteouts.ensures c.requires.members.by_name.rising;
}

pub new-entries-requires : goal.new-entries-requires
new-entries-requires g c = (forests c.args.layer.now.image.now c.args.layer.now.number c.requires.below c.requires.members.by_name.rising).0

pub returns : goal.returns
returns g c =
    let a = c.args.layer.now.image.now in
    let h = c.args.head.now.offset in
    let e : c.in_ok-entry_name.entry_name ≡ c.args.name.now = c.in_ok-entry_name.ensures in
    let f : c.in_ok-mark_name.mark_name ≡ c.args.name.now = c.in_ok-mark_name.ensures in
    let directory : kind a h ≡ Directory = sym (ap (λ (x : Head). x.kind) c.requires.given.is) ∙ c.requires.directory in
    let found : IsMadeOfMembers a c.args.layer.now.number h (members_in a c.args.members.now) c.args.below.entries.items
    c.args.below.marks.items c.in_ok-whiteouts.whiteouts.items c.in_ok-marks.marks.items = record {
      sound = c.requires.sound;
      members = c.requires.members.by_name;
      built = c.requires.below;
      whited = c.in_ok-whiteouts.ensures;
      laid = c.in_ok-marks.ensures;
    } in
    let held = opaque_is_held _ _ _ _ _ _ _ _ found in
    let is : c.has_opaque-opaque.result ≡ is_some (named rest_of_opaque
    c.in_ok-whiteouts.whiteouts.items) = c.has_opaque-opaque.ensures
    ∙ ap (λ ks. is_some (named rest_of_opaque ks)) c.deref.ensures.value in
    let whole : (c.has_opaque-opaque.result ≡ true) ↔ HasNamed a h opaque = subst (λ b. (b ≡ true) ↔ HasNamed a h opaque) (sym is) held in
    let entry = entered a c.args.layer.now.number h c.args.head.now c.entry_at-entry.result c.requires.given
    (directory_stays a h directory) c.entry_at-entry.ensures in
    rw (c.new-entries.ensures, c.new-marks.ensures, e, f)
    (folder _ _ _ _ _ _ _ _ found c.has_opaque-opaque.result whole directory c.entry_at-entry.result entry c.args.name.now)
