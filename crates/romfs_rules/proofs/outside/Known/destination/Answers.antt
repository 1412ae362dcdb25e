use Rattle.romfs_rules.proofs.Judging.{fails}
use Rattle.romfs_rules.proofs.Reach.{destination_named, destination_unnamed}
use Rattle.romfs_rules.proofs.outside.Known.destination.Goals as goal

pub returns-then-is_asked : goal.returns-then-is_asked
returns-then-is_asked g c = destination_named c.args.self.now c.args.at c.destination_of.result (c.is_asked.ensures.0 c.if-is_asked.true)
    (rw c.self.view_is at c.destination_of.ensures)

pub returns-else-is_asked : goal.returns-else-is_asked
returns-else-is_asked g c = destination_unnamed c.args.self.now c.args.at (λ x. fails c.is_asked.ensures c.if-is_asked.false x.0)

pub returns-then-not-is_hard_link : goal.returns-then-not-is_hard_link
returns-then-not-is_hard_link g c = rw (← c.self.view_is)
    (destination_unnamed _ c.args.at (λ x. fails c.is_hard_link.ensures c.if-not-is_hard_link.true x.1))
