use Rattle.std.proofs.Common.{◌≡◌, drop, [], arith}
use Rattle.std.specs.Fmt.{decimal}
use Rattle.std.proofs.lemmas.List.{drop_all}
use Rattle.node_list.specs.Lines.{spaced, mode_text}
use Rattle.node_list.specs.declared.fields.TheConstants.{FIELDS_SIZE}
use Rattle.node_list.proofs.Lining.{in_a_row}
use Rattle.node_list.proofs.fields.write_fields.Goals as goal

pub returns-clause-written : goal.returns-clause-written
returns-clause-written c =
    let none : drop FIELDS_SIZE c.args.bytes.now ≡ [] = drop_all FIELDS_SIZE c.args.bytes.now (omega (arith, c.requires)) in
    in_a_row (spaced (decimal c.args.attr.now.ino)) (spaced (mode_text c.args.attr.now.mode)) (spaced (decimal c.args.attr.now.nlink))
    (spaced (decimal c.args.attr.now.size)) (spaced (decimal c.args.layer))
    c.write_number.ensures.written c.write_mode-at.ensures.written (rw c.from-2.ensures at c.write_number-at-3.ensures.written)
    c.write_number-at-2.ensures.written (rw c.from.ensures at c.write_number-at.ensures.written) none
