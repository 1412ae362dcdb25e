use Rattle.std.proofs.Common.{◌∙◌, ap, sym, subst, []}
use Rattle.node_list.specs.Lines.{printed}
use Rattle.node_list.specs.Walks.{IsOnWay, line_as, lines_below}
use Rattle.node_list.proofs.Gaining.{failed_longer, puts_none, puts_more, puts_same}
use Rattle.node_list.proofs.Soundness.{are_images}
use Rattle.node_list.proofs.Turns.{puts_at}
use Rattle.node_list.proofs.Whole.{none, begun}
use Rattle.node_list.proofs.room.Room.put_all.Goals as goal

pub returns-then-len-eq0 : goal.returns-then-len-eq0
returns-then-len-eq0 g c = puts_same (none c.args.table.now c.len.result c.len.ensures.value c.if-len-eq0.true) (puts_none _ _)

pub put_below-requires-clause-on : goal.put_below-requires-clause-on
put_below-requires-clause-on g c =
    let i = are_images c.args.table.now.layers c.len.ensures.sound in
    let b = begun c.args.table.now c.len.result i c.len.ensures.listing c.len.ensures.value c.if-len-eq0.false in
    subst (λ q. IsOnWay c.args.table.now 1 q) (sym c.requires.root) ([], b.visit)

pub returns-in_err-put_line : goal.returns-in_err-put_line
returns-in_err-put_line g c =
    let i = are_images c.args.table.now.layers c.len.ensures.sound in
    let b = begun c.args.table.now c.len.result i c.len.ensures.listing c.len.ensures.value c.if-len-eq0.false in
    let line = puts_same (ap (λ q. line_as c.args.table.now 1 q) (c.printed.ensures ∙ ap printed c.requires.root))
    c.in_err-put_line.ensures in
    puts_same b.all (failed_longer c.from_residual.result (lines_below c.args.table.now []) c.from_residual.ensures.0 line)

pub returns : goal.returns
returns g c =
    let i = are_images c.args.table.now.layers c.len.ensures.sound in
    let b = begun c.args.table.now c.len.result i c.len.ensures.listing c.len.ensures.value c.if-len-eq0.false in
    let line = puts_same (ap (λ q. line_as c.args.table.now 1 q) (c.printed.ensures ∙ ap printed c.requires.root))
    c.in_ok-put_line.ensures in
    puts_same b.all (puts_more line (puts_at [] b.visit (rw c.requires.root at c.put_below.ensures.put)))
