use Rattle.std.proofs.Common.{◌∙◌, sym, subst, arith}
use Rattle.std.proofs.lemmas.Grind.{common_steps}
use Rattle.romfs_rules.specs.Marks.{IsElsewhere}
use Rattle.romfs_rules.specs.Sets.{AreSets}
use Rattle.romfs_rules.proofs.Judging.{list_says, or_else, or_true, rises, root_elsewhere}
use Rattle.romfs_rules.proofs.judge.Sets.is_twice.Goals as goal

pub returns-then-is_listed : goal.returns-then-is_listed
returns-then-is_listed g c =
    let sets = subst (λ a. AreSets a c.self.inside) c.self.view_is c.self.invariant in
    or_true (list_says _ _ _ _ _ sets.twice c.requires c.is_listed.ensures) c.if-is_listed.true

pub returns-then-at-self : goal.returns-then-at-self
returns-then-at-self g c =
    let a = c.args.self.now in
    let sets = subst (λ a. AreSets a c.self.inside) c.self.view_is c.self.invariant in
    let e = c.if-at-self.true ∙ (rw c.self.view_is at c.self.inside.volume.now.rooted) in
    let law = root_elsewhere a c.args.at e in
    let flag = sets.chains.root in
    or_else (list_says _ _ _ _ _ sets.twice c.requires c.is_listed.ensures) c.if-is_listed.false
    (λ t. law.0 (subst (IsElsewhere a) (sym e) (flag.0 t)), λ x. flag.1 (subst (IsElsewhere a) e (law.1 x)))

pub returns-else-at-self : goal.returns-else-at-self
returns-else-at-self g c =
    let sets = subst (λ a. AreSets a c.self.inside) c.self.view_is c.self.invariant in
    let root = rw c.self.view_is at c.self.inside.volume.now.rooted in
    or_else (list_says _ _ _ _ _ sets.twice c.requires c.is_listed.ensures) c.if-is_listed.false
    (λ t. absurd (grind (arith, common_steps)), λ x. absurd (c.if-at-self.false (x.0 ∙ sym root)))

pub is_listed-requires-clause-at : goal.is_listed-requires-clause-at
is_listed-requires-clause-at g c =
    let small = rw c.self.view_is at c.self.inside.volume.now.keeps.small in
    let inside = c.requires.inside.1 in
    omega arith

pub is_listed-requires-clause-rising : goal.is_listed-requires-clause-rising
is_listed-requires-clause-rising g c = rises _ c.self.invariant.twice.rising
