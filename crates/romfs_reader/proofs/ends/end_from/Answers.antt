use Rattle.std.proofs.Common.{rules, ◌≡◌, ◌∙◌, ap, Some}
use Rattle.std.specs.Ordering.{nat_cmp}
use Rattle.std.specs.BTreeMap.{get}
use Rattle.romfs_format.specs.Fields.{spec, cleared}
use Rattle.romfs_format.specs.Heads.{head_of}
use Rattle.romfs_reader.proofs.Given.{sets_out, next_inside, moves_on, way_falls, arrives, arrived}
use Rattle.romfs_reader.proofs.Noting.{known_inside, known_given}
use Rattle.romfs_reader.proofs.ends.end_from.Goals as goal

pub loop-at-init : goal.loop-at-init
loop-at-init g c = sets_out c.args.image.now c.requires.image c.args.head.now c.requires.given

pub head_at-requires-clause-inside : goal.head_at-requires-clause-inside
head_at-requires-clause-inside g c =
    let found : get nat_cmp c.args.known.now c.loop-at.at.offset ≡ Some c.in-Some.end.now = search rules in
    (known_inside c.args.image.now c.requires.image c.args.head.now c.loop-at.at c.requires.given
    c.loop-at.invariant (search rules) c.in-Some.end.now
    (c.requires.known.each c.loop-at.at.offset c.in-Some.end.now found)).1

pub returns-in-Some-clause-end : goal.returns-in-Some-clause-end
returns-in-Some-clause-end g c =
    let found : get nat_cmp c.args.known.now c.loop-at.at.offset ≡ Some c.in-Some.end.now = search rules in
    let final = c.loop-at.invariant.on c.in-Some.end.now (c.requires.known.each c.loop-at.at.offset c.in-Some.end.now found) in
    rw c.head_at.ensures final

pub returns-in-Some-clause-given : goal.returns-in-Some-clause-given
returns-in-Some-clause-given g c =
    let found : get nat_cmp c.args.known.now c.loop-at.at.offset ≡ Some c.in-Some.end.now = search rules in
    known_given c.args.image.now c.requires.image c.args.head.now c.loop-at.at c.requires.given
    c.loop-at.invariant (search rules) c.in-Some.end.now c.head_at.result
    (c.requires.known.each c.loop-at.at.offset c.in-Some.end.now found) c.head_at.ensures

pub head_at-at-requires-clause-inside : goal.head_at-at-requires-clause-inside
head_at-at-requires-clause-inside g c =
    let s : c.loop-at.at.spec ≡ spec c.args.image.now c.loop-at.at.offset = ap (λ x. x.spec) c.loop-at.invariant.is in
    rw (c.cleared.ensures, s) (next_inside c.args.image.now c.requires.image c.args.head.now c.loop-at.at c.requires.given
    c.loop-at.invariant (search rules)).1

pub loop-at-smaller : goal.loop-at-smaller
loop-at-smaller g c =
    let s : c.loop-at.at.spec ≡ spec c.args.image.now c.loop-at.at.offset = ap (λ x. x.spec) c.loop-at.invariant.is in
    way_falls c.args.image.now c.requires.image c.args.head.now c.loop-at.at c.head_at-at.result
    c.loop-at.invariant (search rules) (c.head_at-at.ensures
    ∙ ap (λ x. head_of c.args.image.now x) (c.cleared.ensures ∙ ap cleared s))

pub loop-at-preserved : goal.loop-at-preserved
loop-at-preserved g c =
    let s : c.loop-at.at.spec ≡ spec c.args.image.now c.loop-at.at.offset = ap (λ x. x.spec) c.loop-at.invariant.is in
    moves_on c.args.image.now c.requires.image c.args.head.now c.loop-at.at c.head_at-at.result
    c.requires.given c.loop-at.invariant (search rules)
    (c.head_at-at.ensures ∙ ap (λ x. head_of c.args.image.now x) (c.cleared.ensures ∙ ap cleared s))

pub returns-clause-end : goal.returns-clause-end
returns-clause-end g c = arrives c.args.image.now c.requires.image c.args.head.now c.loop-at.at c.loop-at.invariant (search rules)

pub returns-clause-given : goal.returns-clause-given
returns-clause-given g c = arrived c.args.image.now c.requires.image c.args.head.now c.loop-at.at c.requires.given c.loop-at.invariant
    (search rules)
