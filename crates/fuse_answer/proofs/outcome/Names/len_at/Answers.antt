use Rattle.std.proofs.Common.{◌∙◌, ap, length, ◌∷◌, [], arith, length-append}
use Rattle.fuse_answer.proofs.NamesSaid.{said_few}
use Rattle.fuse_answer.proofs.outcome.Names.len_at.Goals as goal

pub overflow_cast-result : goal.overflow_cast-result
overflow_cast-result c =
    let few = said_few c.args.self.now c.requires c.args.position in
    let here = ap length c.in-Some.ensures ∙ length-append c.in-Some.name.now (0 ∷ []) in
    omega arith

pub overflow_add-result : goal.overflow_add-result
overflow_add-result c =
    let few = said_few c.args.self.now c.requires c.args.position in
    let here = ap length c.in-Some.ensures ∙ length-append c.in-Some.name.now (0 ∷ []) in
    omega arith
