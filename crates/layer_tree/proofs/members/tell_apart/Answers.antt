use Rattle.std.proofs.Common.{sym, subst}
use Rattle.layer_tree.specs.Members.{AreToldApart}
use Rattle.layer_tree.proofs.Keyed.{as_long, whole_keys, told_apart}
use Rattle.layer_tree.proofs.members.tell_apart.Goals as goal

pub set_keys-requires : goal.set_keys-requires
set_keys-requires c = record {
  read = c.requires.read;
  long = as_long c.args.image.now c.args.shared c.args.members.now c.requires.shared;
}

pub returns-then-shared-gt0 : goal.returns-then-shared-gt0
returns-then-shared-gt0 c =
    subst (λ new. AreToldApart c.args.image.now c.args.members.now new) (sym c.set_keys.ensures)
    (told_apart c.args.image.now c.args.shared c.args.members.now c.requires.read c.requires.keyed c.requires.shared)

pub returns-else-shared-gt0 : goal.returns-else-shared-gt0
returns-else-shared-gt0 c = whole_keys c.args.image.now c.args.members.now c.requires.read c.requires.keyed
