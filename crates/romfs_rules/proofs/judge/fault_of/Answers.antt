use Rattle.std.proofs.Common.{rules}
use Rattle.romfs_rules.proofs.Verdict.{fault_by_header, fault_by_depth, kept_by_depth}
use Rattle.romfs_rules.proofs.judge.fault_of.Goals as goal

pub returns-in-Some : goal.returns-in-Some
returns-in-Some c = λ profile b v h d. fault_by_header profile b v c.in-Some.fault.rule c.in-Some.fault.place (rw c.in-Some.is at h)

pub returns-in-Some-deep : goal.returns-in-Some-deep
returns-in-Some-deep c = λ profile b v h d. let k = rw c.in-None.is at h in
    fault_by_depth profile b v k c.args.deep c.in-Some-deep.place (d (search (rules, c.in-None.is)))
    c.in-Some-deep.is

pub returns-in-None-deep : goal.returns-in-None-deep
returns-in-None-deep c = λ profile b v h d. let k = rw c.in-None.is at h in
    kept_by_depth profile b v k c.args.deep (d (search (rules, c.in-None.is))) c.in-None-deep.is
