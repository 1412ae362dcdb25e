use Rattle.std.proofs.Common.{sym, ◌∙◌, Some, ap}
use Rattle.layer_paths.proofs.Names.{named_at, named_between}
use Rattle.layer_paths.proofs.branch.child.Goals as goal

pub returns-in-Ok : goal.returns-in-Ok
returns-in-Ok g c =
    let here = c.index-children-i.result in
    named_at c.args.name.now c.args.children.now c.requires c.in-Ok.i here c.in-Ok.ensures.0 (c.in-Ok.ensures.1 here)
    ∙ ap Some (sym c.index-children-i.is)

pub returns-in-Err : goal.returns-in-Err
returns-in-Err g c = named_between c.args.name.now c.args.children.now c.in-Err.field-0 c.in-Err.ensures.1
