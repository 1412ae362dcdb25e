use Rattle.std.proofs.Common.{rules, refl, ◌≡◌, ◌<◌, ◌-◌, ◌^◌, ◌++◌, ◌∷◌, ◌∙◌, ap, subst, sym, length, length-append, arith}
use Rattle.node_list.specs.declared.path_text.TheConstants.{LONGEST}
use Rattle.node_list.specs.Lines.{name_text, printed}
use Rattle.node_list.specs.Walks.{IsOnWay, line_as}
use Rattle.node_list.proofs.Gaining.{puts_same}
use Rattle.node_list.proofs.Visits.{turn_of}
use Rattle.node_list.proofs.Turns.{name_fits, no_turn, on_way, cut_back, line_broken, below_broken, turn_more, all_turns}
use Rattle.node_list.proofs.room.Room.+put_below.Goals as goal

pub go_down-requires : goal.go_down-requires
go_down-requires g t c =
    let turn = turn_of c.rows-row-items.ensures c.loop-row-test.true c.row-item.is c.row.view_is c.name.ensures in
    let room = name_fits c.args.table.now c.args.number c.args.path.now c.requires.on turn in
    let same = ap length c.loop-row.invariant.back in
    omega (arith, room, same)

pub put_below-requires : goal.put_below-requires
put_below-requires g t c κs within =
    let turn = turn_of c.rows-row-items.ensures c.loop-row-test.true c.row-item.is c.row.view_is c.name.ensures in
    let text = c.args.path.now in
    let name = name_text c.name.result.now in
    let down : c.go_down.new.self ≡ text ++ 47 ∷ name = c.go_down.ensures ∙ ap (λ q. q ++ 47 ∷ name) c.loop-row.invariant.back in
    let room = name_fits c.args.table.now c.args.number text c.requires.on turn in
    let long = ap length down ∙ length-append text (47 ∷ name) in
    let less : LONGEST - length c.go_down.new.self < LONGEST - length text = omega (arith, room, long) in
    let on : IsOnWay c.args.table.now c.row.inside.number c.go_down.new.self = subst (λ q. IsOnWay c.args.table.now c.row.inside.number q)
    (sym down) (on_way c.args.table.now c.args.number text c.requires.on turn) in
    let same_failures = c.in_ok-put_line.ensures.counted.0 ∙ c.loop-row.invariant.put.counted.0 in
    let few = subst (λ n. n < 2 ^ 63) (sym same_failures) c.requires.counts in
    search (rules, on, less, few)

pub loop-row-init : goal.loop-row-init
loop-row-init g t c = record { back = refl; put = no_turn c.args.table.now c.args.number c.args.path.now c.rows-row-items.result.now _ }

pub returns-in_err-put_line-clause-put : goal.returns-in_err-put_line-clause-put
returns-in_err-put_line-clause-put g t c =
    let turn = turn_of c.rows-row-items.ensures c.loop-row-test.true c.row-item.is c.row.view_is c.name.ensures in
    let down : c.go_down.new.self ≡ c.args.path.now ++ 47 ∷ name_text c.name.result.now =
    c.go_down.ensures ∙ ap (λ q. q ++ 47 ∷ name_text c.name.result.now) c.loop-row.invariant.back in
    let line = puts_same (ap (λ q. line_as c.args.table.now c.row.inside.number q) (c.printed.ensures ∙ ap printed down))
    c.in_err-put_line.ensures in
    line_broken c.args.table.now c.args.number c.args.path.now c.from_residual.result turn c.loop-row.invariant.put line
    c.from_residual.ensures.0

pub returns-in_err-put_below-clause-put : goal.returns-in_err-put_below-clause-put
returns-in_err-put_below-clause-put g t c =
    let turn = turn_of c.rows-row-items.ensures c.loop-row-test.true c.row-item.is c.row.view_is c.name.ensures in
    let down : c.go_down.new.self ≡ c.args.path.now ++ 47 ∷ name_text c.name.result.now =
    c.go_down.ensures ∙ ap (λ q. q ++ 47 ∷ name_text c.name.result.now) c.loop-row.invariant.back in
    let line = puts_same (ap (λ q. line_as c.args.table.now c.row.inside.number q) (c.printed.ensures ∙ ap printed down))
    c.in_ok-put_line.ensures in
    below_broken c.args.table.now c.args.number c.args.path.now c.from_residual-in_err-put_below.result turn
    c.loop-row.invariant.put line (rw down at c.in_err-put_below.ensures.put) c.from_residual-in_err-put_below.ensures.0

pub loop-row-preserved : goal.loop-row-preserved
loop-row-preserved g t c =
    let turn = turn_of c.rows-row-items.ensures c.loop-row-test.true c.row-item.is c.row.view_is c.name.ensures in
    let text = c.args.path.now in
    let name = name_text c.name.result.now in
    let down : c.go_down.new.self ≡ text ++ 47 ∷ name = c.go_down.ensures ∙ ap (λ q. q ++ 47 ∷ name) c.loop-row.invariant.back in
    let line = puts_same (ap (λ q. line_as c.args.table.now c.row.inside.number q) (c.printed.ensures ∙ ap printed down))
    c.in_ok-put_line.ensures in
    record {
      back = c.go_up.ensures ∙ cut_back text _ (c.in_ok-put_below.ensures.back ∙ down) c.len-above.ensures;
      put = turn_more c.args.table.now c.args.number text turn c.loop-row.invariant.put line (rw down at c.in_ok-put_below.ensures.put);
    }

pub returns-clause-put : goal.returns-clause-put
returns-clause-put g t c = all_turns c.args.table.now c.args.number c.args.path.now c.rows-row-items.result.now c.loop-row.row-index
    c.rows-row-items.ensures c.loop-row-test.false c.loop-row.invariant.put
