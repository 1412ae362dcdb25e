use Rattle.std.proofs.Common.{◌≡◌, ◌<◌, None, Some, length, arith}
use Rattle.strata_images.proofs.Small.{one_more, told_large, told_small}
use Rattle.strata_images.proofs.images.are_small.Goals as goal

pub returns-in_default : goal.returns-in_default
returns-in_default g c =
    let s = c.loop-path.invariant in
    let here : length s.0 < length c.args.paths.now = omega arith in
    told_large (length c.args.paths.now) s.0 None here (λ size is. absurd (cc))

pub returns-then-rest-len : goal.returns-then-rest-len
returns-then-rest-len g c =
    let s = c.loop-path.invariant in
    let here : length s.0 < length c.args.paths.now = omega arith in
    let over = c.if-rest-len.true in
    told_large (length c.args.paths.now) s.0 (Some c.in-Some.len) here
    (λ size is. let same : c.in-Some.len ≡ size = cc in omega arith)

pub loop-path-preserved : goal.loop-path-preserved
loop-path-preserved g c = one_more _ _ _ c.loop-path.invariant c.if-rest-len.false

pub returns : goal.returns
returns g c =
    let s = c.loop-path.invariant in
    let all : length s.0 ≡ length c.args.paths.now = omega arith in
    told_small (length c.args.paths.now) s.0 all (omega arith)
