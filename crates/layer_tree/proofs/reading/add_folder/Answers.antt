use Rattle.std.proofs.Common.{rules, ◌≡◌, ◌∙◌, ap, refl, sym, Some, None}
use Rattle.std.proofs.lemmas.List.{append-nil}
use Rattle.romfs_format.specs.declared.head.Head.{Head}
use Rattle.romfs_format.specs.declared.head.Kind.TheVariants.{Directory}
use Rattle.romfs_format.specs.Fields.{kind}
use Rattle.layer_tree.specs.Members.{members_in}
use Rattle.layer_tree.proofs.Building.{as_many, forests}
use Rattle.layer_tree.proofs.Entering.{directory_stays, entered}
use Rattle.layer_tree.proofs.Folding.{made_as_needed, plain_folder}
use Rattle.layer_tree.proofs.reading.add_folder.Goals as goal

pub new-requires : goal.new-requires
new-requires g c = (forests c.args.layer.now.image.now c.args.layer.now.number c.requires.below c.requires.members.by_name.rising).0

pub same-mark : goal.same-mark
same-mark g c = refl

pub returns-then-is_plain : goal.returns-then-is_plain
returns-then-is_plain g c =
    let a = c.args.layer.now.image.now in
    let h = c.args.head.now.offset in
    let plain = c.is_plain.ensures (search rules) in
    let e : c.in_ok-own_name.own_name ≡ c.args.name.now = c.in_ok-own_name.ensures in
    let directory : kind a h ≡ Directory = sym (ap (λ (x : Head). x.kind) c.requires.given.is) ∙ c.requires.directory in
    let entry = entered a c.args.layer.now.number h c.args.head.now c.entry_at-own_entry.result c.requires.given
    (directory_stays a h directory) c.entry_at-own_entry.ensures in
    record {
      made = (c.new.result, None);
      is = rw (c.new.ensures, e) (plain_folder a c.args.layer.now.number h (members_in a c.args.members.now) c.args.below.entries.items
          c.args.below.marks.items c.entry_at-own_entry.result c.args.name.now (record {
            sound = c.requires.sound;
            directory = directory;
            members = c.requires.members.by_name;
            built = c.requires.below;
            whole = plain.0 ∙ sym (as_many a c.args.members.now);
            unmarked = plain.1;
            stands = entry;
          }));
      entries = c.in_ok-push.ensures.items;
      marks = sym (append-nil c.args.to.now.marks.items);
    }

pub returns-in_ok-add_mark : goal.returns-in_ok-add_mark
returns-in_ok-add_mark g c = record {
  made = (c.in_ok-entry.entry, Some c.in-Some.mark);
  is = made_as_needed c.args.layer.now.image.now c.args.layer.now.number c.args.head.now.offset c.args.name.now c.in_ok-entry.entry
      c.in_ok-entry.mark (Some c.in-Some.mark) c.in_ok-entry.ensures (rw c.in-Some.is at c.needed.ensures);
  entries = c.in_ok-push-2.ensures.items;
  marks = c.in_ok-add_mark.ensures;
}

pub returns-in_default : goal.returns-in_default
returns-in_default g c = record {
  made = (c.in_ok-entry.entry, None);
  is = made_as_needed c.args.layer.now.image.now c.args.layer.now.number c.args.head.now.offset c.args.name.now c.in_ok-entry.entry
      c.in_ok-entry.mark None c.in_ok-entry.ensures (rw c.in_default.is at c.needed.ensures);
  entries = c.in_ok-push-2.ensures.items;
  marks = sym (append-nil c.args.to.now.marks.items);
}
