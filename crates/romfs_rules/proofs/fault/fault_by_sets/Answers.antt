use Rattle.std.proofs.Common.{sym, subst}
use Rattle.std.proofs.lemmas.Bool.{true≢false}
use Rattle.romfs_format.specs.declared.rule.Profile.TheVariants.{Usual}
use Rattle.romfs_format.specs.declared.rule.Rule.TheVariants.{TooDeep}
use Rattle.romfs_format.specs.Rules.{BreaksHeader}
use Rattle.romfs_rules.specs.Outside.{IsLeast}
use Rattle.romfs_rules.specs.Judge.{IsHeaderFault}
use Rattle.romfs_rules.proofs.fault.fault_by_sets.Goals.{in-Some, in-None+in_ok-deep-in-None}
use Rattle.romfs_rules.proofs.fault.fault_by_sets.Goals as goal

pub returns : goal.returns
returns g c = λ b e v.
    c.fault_of.ensures c.args.profile b v
    (subst (λ a. IsHeaderFault c.args.profile a c.in_ok-header.header) (sym e) c.in_ok-header.ensures)
    (λ n. subst (λ a. IsLeast (BreaksHeader Usual a TooDeep) c.match-header.deep) (sym e)
    (elim c.match-header.branch [
      | in-Some w ↦ absurd (true≢false (rw w.in-Some.is at n))
      | in-None+in_ok-deep-in-None w ↦ rw w.deep-is w.in_ok-deep-in-None.ensures
    ]))
