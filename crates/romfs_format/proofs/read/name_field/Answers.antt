use Rattle.std.proofs.Common.{arith, sym, ◌∙◌, drop, ◌≤◌, length, length-drop}
use Rattle.std.proofs.lemmas.List.{take_all, take_rest}
use Rattle.romfs_format.specs.declared.limits.TheConstants.{NAME_FIELD_SIZE}
use Rattle.romfs_format.specs.Fields.{name_field}
use Rattle.romfs_format.proofs.read.name_field.Goals as goal

pub returns-then-rest-lt-NAME_FIELD_SIZE : goal.returns-then-rest-lt-NAME_FIELD_SIZE
unfolding name_field
returns-then-rest-lt-NAME_FIELD_SIZE c =
    take_rest c.args.image.now c.args.at
    ∙ sym (take_all NAME_FIELD_SIZE (drop c.args.at c.args.image.now)
    (let h : length (drop c.args.at c.args.image.now) ≤ NAME_FIELD_SIZE = rw length-drop (omega arith) in
    h))
