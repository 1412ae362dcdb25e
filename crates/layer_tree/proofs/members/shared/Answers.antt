use Rattle.std.proofs.Common.{refl}
use Rattle.layer_tree.proofs.Keyed.{begins_both}
use Rattle.layer_tree.proofs.members.shared.Goals as goal

pub returns-clause-first : goal.returns-clause-first
returns-clause-first c = begins_both c.shared.result c.args.x.now c.args.x.now refl

pub returns-clause-second : goal.returns-clause-second
returns-clause-second c = begins_both c.shared.result c.args.x.now c.args.y.now c.shared.ensures.same
