use Rattle.std.proofs.Common.{rules, arith, sym}
use Rattle.fuse_answer.proofs.Decided.{cut_decided, rows_decided}
use Rattle.fuse_answer.proofs.listing.list.Goals as goal

pub returns-in-Some : goal.returns-in-Some
returns-in-Some g c = λ agreed.
    cut_decided c.args.table.now agreed c.args.number c.args.offset c.args.size c.args.with_entries c.in-Some.rows
    (search rules) c.in-Some.ensures (sym c.if-is_too_small.ensures)

pub returns-in-Some-2 : goal.returns-in-Some-2
returns-in-Some-2 g c = λ agreed.
    rows_decided c.args.table.now agreed c.args.number c.args.offset c.args.size c.args.with_entries c.in-Some.rows
    (search rules) (omega arith) c.in-Some.ensures (sym c.if-is_too_small.ensures)
