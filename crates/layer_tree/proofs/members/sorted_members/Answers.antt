use Rattle.std.proofs.Common.{◌≡◌, sym, ap, subst, ◌∙◌, length, arith}
use Rattle.std.specs.List.Sorted.{IsPermutation}
use Rattle.std.proofs.lemmas.List.{with_items_is}
use Rattle.std.proofs.lemmas.List.Sorted.{IsPermutation-map, All-permutation}
use Rattle.romfs_format.specs.declared.head.Head.{Head}
use Rattle.romfs_format.specs.declared.head.Kind.TheVariants.{Directory}
use Rattle.romfs_format.specs.Fields.{kind}
use Rattle.romfs_reader.proofs.Given.{from_opened}
use Rattle.layer_tree.specs.Members.{member_in, members_in, IsRead, AreToldApart}
use Rattle.layer_tree.proofs.ByName.{are_by_name}
use Rattle.layer_tree.proofs.members.sorted_members.Goals as goal

pub returns : goal.returns
returns g c =
    let a = c.args.image.now in
    let d = c.args.directory.now in
    let given = c.requires.given in
    let k : kind a d.offset ≡ Directory = sym (ap (λ (x : Head). x.kind) given.is) ∙ c.requires.directory in
    let found = c.in_ok-members.members in
    let told = c.tell_apart.new.members in
    let apart = subst (λ old. AreToldApart a old told) c.deref_mut.ensures.value c.tell_apart.ensures in
    let level : length told ≡ found.len = omega (arith, found.ok.0, c.tell_apart.auto.members, ap length c.deref_mut.ensures.value) in
    let sorted = c.sort_by_name.new.members.items in
    let same = subst (λ old. IsPermutation old sorted) (with_items_is found told level) c.sort_by_name.ensures.same in
    let moved = subst (λ ms. IsPermutation ms (members_in a sorted)) apart.same (IsPermutation-map (member_in a) told sorted same) in
    record {
      by_name = are_by_name a c.requires.sound d.offset (from_opened a c.requires.sound d.offset given.from k)
          c.members.result found.items (members_in a sorted) c.members.ensures.given (c.members.ensures.directory c.requires.directory)
          c.in_ok-members.ensures.heads moved c.sort_by_name.ensures.sorted;
      read = All-permutation (IsRead a) told sorted same apart.read;
    }
