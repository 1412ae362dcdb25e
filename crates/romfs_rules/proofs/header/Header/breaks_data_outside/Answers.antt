use Rattle.std.proofs.Common.{◌∙◌, sym, ap}
use Rattle.std.specs.Option.{option_map}
use Rattle.romfs_rules.proofs.Judging.{data_says}
use Rattle.romfs_rules.proofs.header.Header.breaks_data_outside.Goals as goal

pub returns-then-is_data_outside : goal.returns-then-is_data_outside
returns-then-is_data_outside c = rw (← c.self.view_is) (data_says _ _ c.in-Some.name.now _
    (sym (ap (option_map (λ n. n.now)) c.in-Some.is) ∙ c.self.invariant.is_name)
    (c.is_data_outside.ensures.0 c.if-is_data_outside.true) (rw (← c.self.view_is) at c.has_used_data.ensures))
