use Rattle.std.proofs.Common.{inl, inr}
use Rattle.romfs_rules.proofs.Judging.{mark_says, fails}
use Rattle.romfs_rules.proofs.outside.Known.is_asked.Goals as goal

pub returns-then-contains : goal.returns-then-contains
returns-then-contains g c =
    let target = mark_says _ _ _ _ _ c.self.invariant.1 (rw (← c.self.view_is) at c.requires) c.contains.ensures in
    rw (← c.self.view_is) (λ t. inr (target.0 t), λ x. c.if-contains.true)

pub returns-else-contains : goal.returns-else-contains
returns-else-contains g c =
    let target = mark_says _ _ _ _ _ c.self.invariant.1 (rw (← c.self.view_is) at c.requires) c.contains.ensures in
    rw (← c.self.view_is) (
      λ t. inl (c.is_some_member.ensures.0 t),
      elim [ inl m ↦ c.is_some_member.ensures.1 m | inr t ↦ absurd (fails target c.if-contains.false t) ],
    )
