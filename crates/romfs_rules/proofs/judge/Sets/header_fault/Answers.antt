use Rattle.std.proofs.Common.{subst}
use Rattle.romfs_rules.specs.Sets.{AreSets}
use Rattle.romfs_rules.proofs.Verdict.{breach_below, breach_inside, breach_above, no_breach}
use Rattle.romfs_rules.proofs.judge.Sets.header_fault.Goals as goal

pub returns-in-Some : goal.returns-in-Some
returns-in-Some g c =
    let sets = subst (λ a. AreSets a c.self.inside) c.self.view_is c.self.invariant in
    breach_below c.args.profile _ _ _ sets.below sets.above c.in-Some.place c.in-Some.is

pub returns-in-Some-fault_inside : goal.returns-in-Some-fault_inside
returns-in-Some-fault_inside g c =
    let sets = subst (λ a. AreSets a c.self.inside) c.self.view_is c.self.invariant in
    breach_inside c.args.profile _ _ _ sets.below sets.above c.in_default.is _ _ c.in-Some-fault_inside.ensures

pub returns-in-Some-above : goal.returns-in-Some-above
returns-in-Some-above g c =
    let sets = subst (λ a. AreSets a c.self.inside) c.self.view_is c.self.invariant in
    breach_above c.args.profile _ _ _ sets.below sets.above c.in_default.is c.in_default-fault_inside.ensures
    c.in-Some-above.place c.in-Some-above.is

pub returns-in-None : goal.returns-in-None
returns-in-None g c =
    let sets = subst (λ a. AreSets a c.self.inside) c.self.view_is c.self.invariant in
    no_breach c.args.profile _ _ _ sets.below sets.above c.in_default.is c.in_default-fault_inside.ensures c.in-None.is
