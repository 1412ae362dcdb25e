use Rattle.std.proofs.Common.{◌≡◌, ◌∙◌, sym, ap, Some, ◌+◌, ◌-◌, get_or, arith}
use Rattle.std.specs.Prelude.{codes}
use Rattle.node_reader.specs.Rows.{Line}
use Rattle.fuse_answer.proofs.Writing.{line_there}
use Rattle.fuse_answer.proofs.rows.line_at.Goals as goal

pub overflow_sub-row : goal.overflow_sub-row
overflow_sub-row g c = omega arith

pub bounds-rows-index : goal.bounds-rows-index
bounds-rows-index g c = omega arith

pub returns-in_default : goal.returns-in_default
returns-in_default g c =
    let own : Line = record { number = c.args.rows.now.number; name = codes "." } in
    let upper : Line = record { number = c.args.rows.now.parent; name = codes ".." } in
    let there : Line = get_or c.args.rows.now.children.now (c.args.index - 2) c.index-rows-index.result in
    let line : Line = record { number = c.row.inside.number; name = c.name.result.now } in
    let number_is : there.number ≡ c.row.inside.number = ap (λ (l : Line). l.number) (sym c.row.view_is) in
    let same : c.index-rows-index.result ≡ line =
    c.index-rows-index.is
    ∙ ap (λ n. let l : Line = record { number = n; name = there.name } in l) number_is
    ∙ ap (λ n. let l : Line = record { number = c.row.inside.number; name = n } in l) (sym c.name.ensures) in
    line_there own upper c.args.rows.now.children.now c.args.index c.index-rows-index.result (omega arith) c.requires c.index-rows-index.is
    ∙ ap (λ (l : Line). Some (c.args.index + 1, l)) same

pub returns-in-0 : goal.returns-in-0
returns-in-0 g c = rw (c.in-0.is, c.as_slice.ensures)

pub returns-in-1 : goal.returns-in-1
returns-in-1 g c = rw (c.in-1.is, c.as_slice-in-1.ensures)
