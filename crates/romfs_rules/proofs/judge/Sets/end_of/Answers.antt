use Rattle.std.proofs.Common.{◌∙◌, sym}
use Rattle.std.proofs.lemmas.Bool.{false≢true}
use Rattle.romfs_rules.proofs.judge.Sets.end_of.Goals.{else-is_hard_link-via-then-is_hard_link+else-member, else-is_hard_link-via-else-is_hard_link}
use Rattle.romfs_rules.proofs.judge.Sets.end_of.Goals as goal

pub returns-then-member : goal.returns-then-member
returns-then-member g c = (
  c.requires.member.0 c.if-member.true,
  rw c.self.view_is at (c.is_hard_link.ensures.0 c.if-is_hard_link.true),
  rw c.self.view_is at c.of_member.ensures,
)

pub returns-else-is_hard_link : goal.returns-else-is_hard_link
returns-else-is_hard_link g c = λ x. elim c.else-is_hard_link.branch [
  | else-is_hard_link-via-then-is_hard_link+else-member w ↦ false≢true (sym w.if-member.false ∙ c.requires.member.1 x.0)
  | else-is_hard_link-via-else-is_hard_link w ↦
      false≢true (sym w.if-is_hard_link.false ∙ c.is_hard_link.ensures.1 (rw (← c.self.view_is) at x.1))
]

pub of_member-requires-clause-ends : goal.of_member-requires-clause-ends
of_member-requires-clause-ends g c = c.self.invariant.ends

pub of_member-requires-clause-hard : goal.of_member-requires-clause-hard
of_member-requires-clause-hard g c = c.is_hard_link.ensures.0 c.if-is_hard_link.true
