use denote.Enum.Bare.{same_true, sameb}
use Rattle.std.proofs.Common.{◌≡◌, ◌∙◌, sym, ap, true, refl, rules}
use Rattle.romfs_format.specs.declared.head.End.{End}
use Rattle.romfs_format.specs.declared.head.End.TheVariants.{AtDirectory, AtOther, Nowhere}
use Rattle.romfs_format.specs.contracts.head.End.{the_type}
use Rattle.romfs_rules.proofs.Judging.{link_says}
use Rattle.romfs_rules.proofs.header.Header.ends_as.Goals as goal

-- an end is equal to itself
end_same : (e : End) → sameb the_type e e ≡ true
end_same AtDirectory = refl
end_same AtOther = refl
end_same Nowhere = refl

pub returns-in-Some : goal.returns-in-Some
returns-in-Some c =
    let a = c.self.inside.volume.now.bytes.now in
    rw (← c.self.view_is) (link_says a c.self.inside.at c.in-Some.found c.args.end c.eq.result
    (rw c.in-Some.is at c.self.invariant.ends) (
      λ t. same_true the_type (search rules) c.in-Some.found c.args.end (sym c.eq.ensures ∙ t),
      λ e. c.eq.ensures ∙ ap (λ (x : End). sameb the_type x c.args.end) e ∙ end_same c.args.end,
    ))
