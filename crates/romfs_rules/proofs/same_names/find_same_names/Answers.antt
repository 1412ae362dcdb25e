use Rattle.romfs_rules.specs.Names.{HaveNamesApart}
use Rattle.romfs_rules.proofs.SameNaming.{numbered, none_alike}
use Rattle.romfs_rules.proofs.same_names.find_same_names.Goals as goal

pub name_classes_of-requires-clause-inside : goal.name_classes_of-requires-clause-inside
name_classes_of-requires-clause-inside g c =
    let n = numbered _ _ _ c.requires.chains.headers c.in_ok-heads.ensures in
    rw c.deref.ensures.value (λ i l. (n.each i l).inside.1)

pub returns-in-None : goal.returns-in-None
returns-in-None g c =
    let a = c.args.volume.now.bytes.now in
    let heads = c.in_ok-heads.heads.items in
    let n = numbered a _ heads c.requires.chains.headers c.in_ok-heads.ensures in
    let apart : HaveNamesApart a heads =
    rw (c.in-None.is, c.deref.ensures.value) at c.in_ok-name_classes_of.ensures in
    rw c.new.ensures.items (none_alike a _ _ (record { numbered = n; alone = c.requires.alone }) apart)
