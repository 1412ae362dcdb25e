use Rattle.std.proofs.Common.{◌∙◌, ap, sym, append_assoc, ◌-◌, ◌++◌, ◌∷◌, [], take, drop, length-drop, take_all, arith}
use Rattle.node_list.specs.declared.fields.TheConstants.{FIELDS_SIZE}
use Rattle.node_reader.specs.Readers.{placed}
use Rattle.node_list.proofs.Gaining.{failed_longer, puts_more, puts_same}
use Rattle.node_list.proofs.Lining.{line_is}
use Rattle.node_list.proofs.room.Room.put_line.Goals as goal

pub returns-in_err-put : goal.returns-in_err-put
returns-in_err-put g c =
    let w = c.write_fields-start in
    let short = length-drop w.result w.new.bytes in
    let fields = take_all (FIELDS_SIZE - w.result) (drop w.result w.new.bytes) (omega (arith, short, w.auto.bytes)) ∙ w.ensures.written in
    let one = failed_longer c.from_residual.result (c.args.path.now ++ 10 ∷ []) c.from_residual.ensures.0 c.in_err-put.ensures in
    puts_same (sym (append_assoc (take (FIELDS_SIZE - w.result) (drop w.result w.new.bytes)) c.args.path.now (10 ∷ []))
    ∙ ap (λ t. (t ++ c.args.path.now) ++ 10 ∷ []) fields ∙ line_is c.args.table.now c.args.number c.args.path.now
    (placed c.in-Some.node.now.place) c.in-Some-attr.attr c.in-Some.ensures.place_is c.in-Some-attr.ensures) one

pub returns-in_err-put-2 : goal.returns-in_err-put-2
returns-in_err-put-2 g c =
    let w = c.write_fields-start in
    let short = length-drop w.result w.new.bytes in
    let fields = take_all (FIELDS_SIZE - w.result) (drop w.result w.new.bytes) (omega (arith, short, w.auto.bytes)) ∙ w.ensures.written in
    puts_same (ap (λ t. (t ++ c.args.path.now) ++ 10 ∷ []) fields ∙ line_is c.args.table.now c.args.number c.args.path.now
    (placed c.in-Some.node.now.place) c.in-Some-attr.attr c.in-Some.ensures.place_is c.in-Some-attr.ensures)
    (failed_longer c.from_residual-in_err-put-2.result (10 ∷ []) c.from_residual-in_err-put-2.ensures.0
    (puts_more c.in_ok-put.ensures c.in_err-put-2.ensures))

pub returns : goal.returns
returns g c =
    let w = c.write_fields-start in
    let short = length-drop w.result w.new.bytes in
    let fields = take_all (FIELDS_SIZE - w.result) (drop w.result w.new.bytes) (omega (arith, short, w.auto.bytes)) ∙ w.ensures.written in
    puts_same (ap (λ t. (t ++ c.args.path.now) ++ 10 ∷ []) fields ∙ line_is c.args.table.now c.args.number c.args.path.now
    (placed c.in-Some.node.now.place) c.in-Some-attr.attr c.in-Some.ensures.place_is c.in-Some-attr.ensures)
    (puts_more (puts_more c.in_ok-put.ensures c.in_ok-put-2.ensures) c.put_byte.ensures)
