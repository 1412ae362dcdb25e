use Rattle.std.proofs.Common.{rules, ◌≡◌, ◌∙◌, ap}
use Rattle.romfs_format.specs.Fields.{spec, cleared}
use Rattle.romfs_format.specs.Heads.{head_of}
use Rattle.romfs_reader.proofs.Given.{sets_out, next_inside, moves_on, way_falls, arrives, arrived}
use Rattle.romfs_reader.proofs.parts.end_of.Goals as goal

pub loop-end-init : goal.loop-end-init
loop-end-init c = sets_out c.args.image.now c.requires.image c.args.head.now c.requires.given

pub head_at-end-requires-clause-inside : goal.head_at-end-requires-clause-inside
head_at-end-requires-clause-inside c =
    let s : c.loop-end.end.spec ≡ spec c.args.image.now c.loop-end.end.offset = ap (λ x. x.spec) c.loop-end.invariant.is in
    rw (c.cleared.ensures, s) (next_inside c.args.image.now c.requires.image c.args.head.now c.loop-end.end
    c.requires.given c.loop-end.invariant (search rules)).1

pub loop-end-smaller : goal.loop-end-smaller
loop-end-smaller c =
    let s : c.loop-end.end.spec ≡ spec c.args.image.now c.loop-end.end.offset = ap (λ x. x.spec) c.loop-end.invariant.is in
    way_falls c.args.image.now c.requires.image c.args.head.now c.loop-end.end c.head_at-end.result
    c.loop-end.invariant (search rules) (c.head_at-end.ensures
    ∙ ap (λ x. head_of c.args.image.now x) (c.cleared.ensures ∙ ap cleared s))

pub loop-end-preserved : goal.loop-end-preserved
loop-end-preserved c =
    let s : c.loop-end.end.spec ≡ spec c.args.image.now c.loop-end.end.offset = ap (λ x. x.spec) c.loop-end.invariant.is in
    moves_on c.args.image.now c.requires.image c.args.head.now c.loop-end.end c.head_at-end.result
    c.requires.given c.loop-end.invariant (search rules)
    (c.head_at-end.ensures ∙ ap (λ x. head_of c.args.image.now x) (c.cleared.ensures ∙ ap cleared s))

pub returns-clause-end : goal.returns-clause-end
returns-clause-end c = arrives c.args.image.now c.requires.image c.args.head.now c.loop-end.end c.loop-end.invariant (search rules)

pub returns-clause-given : goal.returns-clause-given
returns-clause-given c = arrived c.args.image.now c.requires.image c.args.head.now c.loop-end.end c.requires.given c.loop-end.invariant
    (search rules)
