use borrow.Author.Count.{falls}
use Rattle.std.proofs.Common.{rules, ◌≡◌, ◌<◌, ◌≤◌, ◌∙◌, length, arith, sym, ap}
use Rattle.romfs_format.specs.declared.head.Head.{Head}
use Rattle.stack_model.specs.Stack.{IsMarker}
use Rattle.layer_tree.specs.Members.{NamedMember, members_in}
use Rattle.layer_tree.proofs.Building.{nowhere_kept, at_index, at_place, name_at_place, as_many, building_begun, some_left, one_less, build_hidden, build_made, building_ended}
use Rattle.layer_tree.proofs.reading.+reading.Goals as goal

pub branches_below-overflow_sub-left : goal.branches_below-overflow_sub-left
branches_below-overflow_sub-left g t c =
    let a = c.args.layer.now.image.now in
    let ms = c.args.members.now in
    let lt : c.loop-member.member-index < length (members_in a ms) = rw (as_many a ms) c.loop-member-test.true in
    some_left a c.requires.sound c.args.left (members_in a ms) c.requires.members c.loop-member.member-index lt

pub branches_below-given_named-it-requires : goal.branches_below-given_named-it-requires
branches_below-given_named-it-requires g t c =
    let read = c.requires.read c.loop-member.member-index nowhere_kept c.loop-member-test.true in
    record { head = read.given; name = read.length }

pub branches_below-add_branches-requires : goal.branches_below-add_branches-requires
branches_below-add_branches-requires g t c κs within =
    let a = c.args.layer.now.image.now in
    let ms = c.args.members.now in
    let at = c.loop-member.member-index in
    let lt : at < length (members_in a ms) = rw (as_many a ms) c.loop-member-test.true in
    let some = some_left a c.requires.sound c.args.left (members_in a ms) c.requires.members at lt in
    let offset : (at_index (members_in a ms) at).head.offset ≡ c.given_named-it.result.head.offset =
    ap (λ (m : NamedMember). m.head.offset) (at_place a ms at c.loop-member-test.true)
    ∙ sym (ap (λ (x : Head). x.offset) c.given_named-it.ensures.value) in
    let less = rw offset at (one_less a c.requires.sound c.args.left (members_in a ms) c.requires.members at lt) in
    let given = c.given_named-it.ensures.given in
    let sound = c.requires.sound in
    let same = c.loop-member.invariant.1 in
    search (rules, some, less, given, sound, same)

pub branches_below-loop-member-smaller : goal.branches_below-loop-member-smaller
branches_below-loop-member-smaller g t c =
    falls _ _ c.loop-member-test.true

pub branches_below-loop-member-preserved-then-is_marker : goal.branches_below-loop-member-preserved-then-is_marker
branches_below-loop-member-preserved-then-is_marker g t c =
    let a = c.args.layer.now.image.now in
    let ms = c.args.members.now in
    let at = c.loop-member.member-index in
    let lt : at < length (members_in a ms) = rw (as_many a ms) c.loop-member-test.true in
    let name = name_at_place a ms at c.given_named-it.result.name.now c.loop-member-test.true
    c.given_named-it.ensures.name in (
      build_hidden a c.args.layer.now.number (members_in a ms) at c.loop-member.made.entries.items c.loop-member.made.marks.items lt
          c.loop-member.invariant.0 (rw name (sym c.if-is_marker.ensures)),
      c.loop-member.invariant.1,
    )

pub branches_below-loop-member-preserved : goal.branches_below-loop-member-preserved
branches_below-loop-member-preserved g t c =
    let a = c.args.layer.now.image.now in
    let ms = c.args.members.now in
    let at = c.loop-member.member-index in
    let lt : at < length (members_in a ms) = rw (as_many a ms) c.loop-member-test.true in
    let here = at_place a ms at c.loop-member-test.true in
    let value = c.given_named-it.ensures.value in
    let name = name_at_place a ms at c.given_named-it.result.name.now c.loop-member-test.true c.given_named-it.ensures.name in
    let offset : (at_index (members_in a ms) at).head.offset ≡ c.given_named-it.result.head.offset =
    ap (λ (m : NamedMember). m.head.offset) here ∙ sym (ap (λ (x : Head). x.offset) value) in
    let no_marker : ¬ IsMarker c.given_named-it.result.name.now = λ h. (let f = c.if-is_marker.ensures in cc) in
    let adds = c.in_ok-add_branches.ensures.made in (
      build_made a c.args.layer.now.number (members_in a ms) at
          c.loop-member.made.entries.items c.loop-member.made.marks.items lt c.loop-member.invariant.0
          adds.made.0 adds.made.1 _ _ (rw name no_marker) (rw (offset, name) adds.is) adds.entries adds.marks,
      c.add_branches.ensures.ends,
    )

pub branches_below-returns : goal.branches_below-returns
branches_below-returns g t c =
    let a = c.args.layer.now.image.now in
    let ms = c.args.members.now in
    let le : length (members_in a ms) ≤ c.loop-member.member-index = omega (arith, as_many a ms) in
    record {
      built = building_ended a c.args.layer.now.number (members_in a ms) c.loop-member.member-index
          c.loop-member.made.entries.items c.loop-member.made.marks.items le c.loop-member.invariant.0;
      ends = c.loop-member.invariant.1;
    }

pub branches_below-loop-member-init : goal.branches_below-loop-member-init
branches_below-loop-member-init g t c =
    rw (c.in_ok-with_capacity.ensures.items, c.new.ensures.items) (
      building_begun c.args.layer.now.image.now c.args.layer.now.number (members_in c.args.layer.now.image.now c.args.members.now),
      c.requires.ends,
    )

pub branches_below-loop-member-smaller-then-is_marker : goal.branches_below-loop-member-smaller-then-is_marker
branches_below-loop-member-smaller-then-is_marker g t c =
    falls _ _ c.loop-member-test.true

pub add_branches-sorted_members-requires : goal.add_branches-sorted_members-requires
add_branches-sorted_members-requires g t c = record {
  sound = c.requires.read.sound;
  given = c.requires.read.given;
  directory = c.in-Directory.is;
}

pub add_branches-add_folder-requires : goal.add_branches-add_folder-requires
add_branches-add_folder-requires g t c = record {
  sound = c.requires.read.sound;
  given = c.requires.read.given;
  directory = c.in-Directory.is;
  members = rw c.deref-in-Directory.ensures.value c.in_ok-members-in-Directory.ensures;
  below = rw c.deref-in-Directory.ensures.value (rw c.deref.ensures.value at c.in_ok-below-in-Directory.ensures.built);
}
