use Rattle.std.proofs.Common.{◌∙◌, ap, length, arith, length-append}
use Rattle.fuse_answer.specs.Names.{said_at, said_before}
use Rattle.fuse_answer.proofs.NamesSaid.{all_few, said_all, said_few, said_next}
use Rattle.fuse_answer.proofs.outcome.Names.len.Goals as goal

pub overflow_add-len : goal.overflow_add-len
overflow_add-len c =
    let few = said_few c.args.self.now c.requires c.loop-position.position in
    let so_far = c.loop-position.invariant in
    let here = c.len_at-len.ensures in
    omega arith

pub loop-position-preserved : goal.loop-position-preserved
loop-position-preserved c =
    let n = c.loop-position.position in
    let next = ap length (said_next c.args.self.now n) ∙ length-append (said_before c.args.self.now n) (said_at c.args.self.now n) in
    let so_far = c.loop-position.invariant in
    let here = c.len_at-len.ensures in
    omega arith

pub returns-clause-short : goal.returns-clause-short
returns-clause-short c =
    let few = all_few c.args.self.now c.requires in
    let all = ap length (said_all c.args.self.now c.loop-position.position (omega (arith, c.count-position-end.ensures))) in
    let so_far = c.loop-position.invariant in
    omega arith
