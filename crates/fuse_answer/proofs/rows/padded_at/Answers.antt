use Rattle.std.proofs.Common.{◌∙◌, ap, Some, ◌+◌, ◌-◌, get_or, arith, refl}
use Rattle.std.specs.Prelude.{codes}
use Rattle.node_reader.specs.Rows.{Line}
use Rattle.fuse_answer.proofs.Writing.{line_there, padded_line}
use Rattle.fuse_answer.proofs.rows.padded_at.Goals as goal

pub returns-in_default : goal.returns-in_default
returns-in_default g c =
    let own : Line = record { number = c.args.rows.now.number; name = codes "." } in
    let upper : Line = record { number = c.args.rows.now.parent; name = codes ".." } in
    let children = c.args.rows.now.children.now in
    let row = c.index-rows-index.result in
    let there = line_there own upper children c.args.index row (omega arith) c.requires c.index-rows-index.is
    ∙ ap (λ (l : Line). Some (c.args.index + 1, l)) c.index-rows-index.is in
    padded_line c.padded_name.result (λ p. p.now) c.args.rows.now c.args.index (c.args.index + 1, get_or children (c.args.index - 2) row)
    there c.padded_name.ensures

pub returns-in-0 : goal.returns-in-0
returns-in-0 g c = rw c.in-0.is (omega arith, refl)

pub returns-in-1 : goal.returns-in-1
returns-in-1 g c = rw c.in-1.is (omega arith, refl)

pub overflow_sub-row : goal.overflow_sub-row
overflow_sub-row g c = omega arith

pub bounds-rows-index : goal.bounds-rows-index
bounds-rows-index g c = omega arith
