use Rattle.std.proofs.Common.{rules}
use Rattle.fuse_answer.proofs.Lookups.{found_below}
use Rattle.fuse_answer.proofs.lookup.look_up.Goals as goal

pub returns-in-Some : goal.returns-in-Some
returns-in-Some g c =
    found_below c.args.table.now c.args.agreed c.args.number c.args.name.now c.in-Some.found c.entry-in-Some.result
    (search rules) (search rules) (search rules) c.in-Some.ensures c.entry-in-Some.ensures
