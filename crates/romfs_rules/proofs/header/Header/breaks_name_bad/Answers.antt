use Rattle.std.proofs.Common.{◌∙◌, sym, ap}
use Rattle.std.specs.Option.{option_map}
use Rattle.romfs_rules.proofs.Judging.{bad_says}
use Rattle.romfs_rules.proofs.header.Header.breaks_name_bad.Goals as goal

pub returns-then-is_bad_name : goal.returns-then-is_bad_name
returns-then-is_bad_name c = rw (← c.self.view_is) (bad_says _ _ c.in-Some.name.now _
    c.self.invariant.asked.slot.inside (sym (ap (option_map (λ n. n.now)) c.in-Some.is) ∙ c.self.invariant.is_name)
    (c.is_bad_name.ensures.0 c.if-is_bad_name.true) c.self.invariant.is_member)
