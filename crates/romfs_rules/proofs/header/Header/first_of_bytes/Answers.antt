use Rattle.std.proofs.Common.{ℕ, List, refl, lit<, lit≤}
use Rattle.romfs_format.specs.Fields.{IsInside}
use Rattle.romfs_format.specs.declared.rule.Profile.{Profile}
use Rattle.romfs_format.specs.declared.rule.Profile.TheVariants.{Usual}
use Rattle.romfs_format.specs.declared.rule.Rule.TheVariants.{NameOpen, NameBad, DataOutside, TargetLong}
use Rattle.romfs_format.specs.Rules.{BreaksHeader}
use Rattle.romfs_rules.specs.Judge.{KeepsBefore}
use Rattle.romfs_rules.proofs.Judging.{fails}
use Rattle.romfs_rules.proofs.Verdict.{none_tried, one_tried, first_broken}
use Rattle.romfs_rules.proofs.header.Header.first_of_bytes.Goals as goal

module _ (profile : Profile) (a : List ℕ) (h : ℕ) (i : IsInside a h) where
  name_ended : ¬ BreaksHeader Usual a NameOpen h → KeepsBefore profile a h 8
  name_ended x = one_tried profile a h NameOpen 7 refl (none_tried profile a h i) x

  name_good : ¬ BreaksHeader Usual a NameOpen h → ¬ BreaksHeader Usual a NameBad h → KeepsBefore profile a h 9
  name_good x y = one_tried profile a h NameBad 8 refl (name_ended x) y

  data_inside : ¬ BreaksHeader Usual a NameOpen h → ¬ BreaksHeader Usual a NameBad h → ¬ BreaksHeader Usual a DataOutside h
      → KeepsBefore profile a h 10
  data_inside x y z = one_tried profile a h DataOutside 9 refl (name_good x y) z

  target_short : ¬ BreaksHeader Usual a NameOpen h → ¬ BreaksHeader Usual a NameBad h → ¬ BreaksHeader Usual a DataOutside h
      → ¬ BreaksHeader Usual a TargetLong h → KeepsBefore profile a h 11
  target_short x y z w = one_tried profile a h TargetLong 10 refl (data_inside x y z) w

pub returns-then-breaks_name_open : goal.returns-then-breaks_name_open
returns-then-breaks_name_open c = λ profile.
    first_broken profile _ _ NameOpen 7 refl (lit≤ tt, lit< tt)
    (none_tried profile _ _ c.breaks_name_open.ensures.inside)
    (c.breaks_name_open.ensures.open.0 c.if-breaks_name_open.true)

pub returns-then-breaks_name_bad : goal.returns-then-breaks_name_bad
returns-then-breaks_name_bad c = λ profile.
    first_broken profile _ _ NameBad 8 refl (lit≤ tt, lit< tt)
    (name_ended profile _ _ c.breaks_name_open.ensures.inside
    (fails c.breaks_name_open.ensures.open c.if-breaks_name_open.false))
    (c.breaks_name_bad.ensures.0 c.if-breaks_name_bad.true)

pub returns-then-breaks_data_outside : goal.returns-then-breaks_data_outside
returns-then-breaks_data_outside c = λ profile.
    first_broken profile _ _ DataOutside 9 refl (lit≤ tt, lit< tt)
    (name_good profile _ _ c.breaks_name_open.ensures.inside
    (fails c.breaks_name_open.ensures.open c.if-breaks_name_open.false)
    (fails c.breaks_name_bad.ensures c.if-breaks_name_bad.false))
    (c.breaks_data_outside.ensures.0 c.if-breaks_data_outside.true)

pub returns-then-breaks_target_long : goal.returns-then-breaks_target_long
returns-then-breaks_target_long c = λ profile.
    first_broken profile _ _ TargetLong 10 refl (lit≤ tt, lit< tt)
    (data_inside profile _ _ c.breaks_name_open.ensures.inside
    (fails c.breaks_name_open.ensures.open c.if-breaks_name_open.false)
    (fails c.breaks_name_bad.ensures c.if-breaks_name_bad.false)
    (fails c.breaks_data_outside.ensures c.if-breaks_data_outside.false))
    (c.breaks_target_long.ensures.0 c.if-breaks_target_long.true)

pub returns : goal.returns
returns c = λ profile.
    target_short profile _ _ c.breaks_name_open.ensures.inside
    (fails c.breaks_name_open.ensures.open c.if-breaks_name_open.false)
    (fails c.breaks_name_bad.ensures c.if-breaks_name_bad.false)
    (fails c.breaks_data_outside.ensures c.if-breaks_data_outside.false)
    (fails c.breaks_target_long.ensures c.if-breaks_target_long.false)
