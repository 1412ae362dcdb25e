use Rattle.std.proofs.Common.{sym, subst}
use Rattle.romfs_format.specs.Fields.{image}
use Rattle.romfs_rules.specs.Plain.{KeepsPlainly}
use Rattle.romfs_rules.proofs.Verdict.{as_usual}
use Rattle.romfs_rules.proofs.fault.fault_in.Goals as goal

pub returns-then-branch : goal.returns-then-branch
returns-then-branch g c = λ b e v.
    let plain = c.in_ok-is_plain_by.ensures c.if-branch.true in
    let keeps = subst (λ a. KeepsPlainly a) (sym e) plain.1 in
    c.fault_of.ensures c.args.profile b v
    (as_usual c.args.profile (image b) plain.0 keeps.headers)
    (λ _. record { is = λ h x. cc; whole = λ h x. absurd (keeps.depth h x) })
