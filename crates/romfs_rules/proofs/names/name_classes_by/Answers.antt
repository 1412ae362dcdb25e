use Rattle.std.proofs.Common.{ℕ, List, Option, MatchOption, length, subst, sym}
use Rattle.std.proofs.lemmas.Result.{IfOk-weaker}
use Rattle.romfs_sets.specs.Names.{HoldTheShared, AreClasses, AreNamesApart}
use Rattle.romfs_rules.specs.Names.{kept_names, HaveTheirsAlone, AreClassesOf, HaveNamesApart}
use Rattle.romfs_rules.proofs.NameHashes.{told_alone}
use Rattle.romfs_rules.proofs.names.name_classes_by.Goals as goal

pub named_headers-requires-clause-once : goal.named_headers-requires-clause-once
named_headers-requires-clause-once g c =
    let heads = c.args.heads.now in
    subst (HaveTheirsAlone (kept_names c.args.volume.now.bytes.now heads) (length heads)) (sym c.deref.ensures.value)
    (told_alone (kept_names c.args.volume.now.bytes.now heads) (length heads) c.args.hashes.now c.in_ok-once.once.items
    c.requires.hashes c.in_ok-once.ensures)

pub classes-requires-clause-named : goal.classes-requires-clause-named
classes-requires-clause-named g c = (kept_names c.args.volume.now.bytes.now c.args.heads.now, c.in_ok-named.ensures)

pub returns : goal.returns
returns g c =
    let a = c.args.volume.now.bytes.now in
    let heads = c.args.heads.now in
    let n = length heads in
    IfOk-weaker c.classes.result
    (λ classes. (name : ℕ → Option (List ℕ)) → HoldTheShared name n c.in_ok-named.named.items
    → MatchOption classes (AreNamesApart name n) (λ some. AreClasses name n some.items))
    (λ classes. MatchOption classes (HaveNamesApart a heads) (λ some. AreClassesOf a heads some.items))
    (λ classes w. w (kept_names a heads) c.in_ok-named.ensures) c.classes.ensures
