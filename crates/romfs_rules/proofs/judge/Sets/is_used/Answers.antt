use Rattle.std.proofs.Common.{inl, inr, subst}
use Rattle.romfs_rules.specs.Sets.{AreSets}
use Rattle.romfs_rules.proofs.Judging.{mark_says, fails}
use Rattle.romfs_rules.proofs.judge.Sets.is_used.Goals as goal

pub returns-then-member : goal.returns-then-member
returns-then-member g c = (λ t. (c.requires.slot.inside, inl (c.requires.member.0 c.if-member.true)), λ x. c.if-member.true)

pub returns-else-member : goal.returns-else-member
returns-else-member g c =
    let sets = subst (λ a. AreSets a c.self.inside) c.self.view_is c.self.invariant in
    let target = mark_says _ _ _ _ _ sets.targets c.requires.slot c.contains.ensures in (
      λ t. (c.requires.slot.inside, inr (target.0 t)),
      λ x. elim x.1 [ inl m ↦ absurd (fails c.requires.member c.if-member.false m) | inr y ↦ target.1 y ],
    )
