use Rattle.std.proofs.Common.{refl, lit<, lit≤}
use Rattle.romfs_format.specs.declared.rule.Rule.TheVariants.{MajorLarge, HeaderSum}
use Rattle.romfs_rules.proofs.Judging.{fails}
use Rattle.romfs_rules.proofs.Verdict.{one_tried, first_broken}
use Rattle.romfs_rules.proofs.header.Header.first_rule.Goals as goal

pub returns-then-breaks_header_sum : goal.returns-then-breaks_header_sum
returns-then-breaks_header_sum c =
    let links = c.in_default-first_of_links.ensures c.args.profile (c.in_default.ensures c.args.profile) in
    let major = one_tried c.args.profile _ _ MajorLarge 15 refl links
    (fails c.breaks_major_large.ensures c.if-breaks_major_large.false) in
    first_broken c.args.profile _ _ HeaderSum 16 refl (lit≤ tt, lit< tt) major
    (c.breaks_header_sum.ensures.0 c.if-breaks_header_sum.true)

pub returns : goal.returns
returns c =
    let links = c.in_default-first_of_links.ensures c.args.profile (c.in_default.ensures c.args.profile) in
    let major = one_tried c.args.profile _ _ MajorLarge 15 refl links
    (fails c.breaks_major_large.ensures c.if-breaks_major_large.false) in
    let all = one_tried c.args.profile _ _ HeaderSum 16 refl major
    (fails c.breaks_header_sum.ensures c.if-breaks_header_sum.false) in
    record { keeps = λ s x b. all.keeps s x x.1 b }
