use Rattle.std.proofs.Common.{ℕ, ◌↔◌, List, IsTrue, refl, lit<, lit≤}
use Rattle.romfs_format.specs.declared.rule.Profile.{Profile}
use Rattle.romfs_format.specs.declared.rule.Profile.TheVariants.{Usual}
use Rattle.romfs_format.specs.declared.rule.Rule.TheVariants.{LinkedTwice, SameName, LinkLoop, LinkDirectory}
use Rattle.romfs_format.specs.Rules.{BreaksHeader}
use Rattle.romfs_rules.specs.Judge.{KeepsBefore}
use Rattle.romfs_rules.proofs.Judging.{fails}
use Rattle.romfs_rules.proofs.Verdict.{one_tried, first_broken}
use Rattle.romfs_rules.proofs.header.Header.first_of_links.Goals as goal

module _ (profile : Profile) (a : List ℕ) (h : ℕ) (k : KeepsBefore profile a h 11) where
  linked_once : ¬ BreaksHeader Usual a LinkedTwice h → KeepsBefore profile a h 12
  linked_once x = one_tried profile a h LinkedTwice 11 refl k x

  name_alone : ¬ BreaksHeader Usual a LinkedTwice h → ¬ BreaksHeader Usual a SameName h → KeepsBefore profile a h 13
  name_alone x y = one_tried profile a h SameName 12 refl (linked_once x) y

  no_loop : ¬ BreaksHeader Usual a LinkedTwice h → ¬ BreaksHeader Usual a SameName h → ¬ BreaksHeader Usual a LinkLoop h
      → KeepsBefore profile a h 14
  no_loop x y z = one_tried profile a h LinkLoop 13 refl (name_alone x y) z

  no_directory : ¬ BreaksHeader Usual a LinkedTwice h → ¬ BreaksHeader Usual a SameName h → ¬ BreaksHeader Usual a LinkLoop h
      → ¬ BreaksHeader Usual a LinkDirectory h → KeepsBefore profile a h 15
  no_directory x y z w = one_tried profile a h LinkDirectory 14 refl (no_loop x y z) w

pub returns-then-self : goal.returns-then-self
returns-then-self c = λ profile k.
    let twice : IsTrue c.self.inside.twice ↔ BreaksHeader Usual c.args.self.now.image LinkedTwice c.args.self.now.at =
    rw (← c.self.view_is) c.self.invariant.is_twice in
    first_broken profile _ _ LinkedTwice 11 refl (lit≤ tt, lit< tt) k (twice.0 c.if-self.true)

pub returns-then-self-2 : goal.returns-then-self-2
returns-then-self-2 c = λ profile k.
    let once = fails c.self.invariant.is_twice c.if-self.false in
    let same : IsTrue c.self.inside.same_name ↔ BreaksHeader Usual c.args.self.now.image SameName c.args.self.now.at =
    rw (← c.self.view_is) (c.self.invariant.has_same_name once) in
    first_broken profile _ _ SameName 12 refl (lit≤ tt, lit< tt)
    (linked_once profile _ _ k (rw (← c.self.view_is) once)) (same.0 c.if-self-2.true)

pub returns-then-ends_as : goal.returns-then-ends_as
returns-then-ends_as c = λ profile k.
    let once = fails c.self.invariant.is_twice c.if-self.false in
    let unlike = fails (c.self.invariant.has_same_name once) c.if-self-2.false in
    first_broken profile _ _ LinkLoop 13 refl (lit≤ tt, lit< tt)
    (name_alone profile _ _ k (rw (← c.self.view_is) once) (rw (← c.self.view_is) unlike))
    (c.ends_as.ensures.0 c.if-ends_as.true)

pub returns-then-ends_as-2 : goal.returns-then-ends_as-2
returns-then-ends_as-2 c = λ profile k.
    let once = fails c.self.invariant.is_twice c.if-self.false in
    let unlike = fails (c.self.invariant.has_same_name once) c.if-self-2.false in
    first_broken profile _ _ LinkDirectory 14 refl (lit≤ tt, lit< tt)
    (no_loop profile _ _ k (rw (← c.self.view_is) once) (rw (← c.self.view_is) unlike)
    (fails c.ends_as.ensures c.if-ends_as.false))
    (c.ends_as-2.ensures.0 c.if-ends_as-2.true)

pub returns : goal.returns
returns c = λ profile k.
    let once = fails c.self.invariant.is_twice c.if-self.false in
    let unlike = fails (c.self.invariant.has_same_name once) c.if-self-2.false in
    no_directory profile _ _ k (rw (← c.self.view_is) once) (rw (← c.self.view_is) unlike)
    (fails c.ends_as.ensures c.if-ends_as.false)
    (fails c.ends_as-2.ensures c.if-ends_as-2.false)
