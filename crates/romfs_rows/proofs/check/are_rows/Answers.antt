use Rattle.std.proofs.Common.{◌≡◌, ◌∙◌, ap, sym, subst, ◌+◌, ◌≤◌, arith, refl, ap}
use Rattle.romfs_format.specs.Fields.{word}
use Rattle.romfs_format.specs.Trailer.{AreRows, row_of}
use Rattle.romfs_rows.proofs.Rising.{AreSoFar, more}
use Rattle.romfs_rows.proofs.check.are_rows.Goals as goal

pub loop-number-preserved : goal.loop-number-preserved
loop-number-preserved c =
    let t = c.args.trailer.now in
    let n = c.loop-number.number in
    let is : c.word-place.result ≡ (row_of t n).place = c.word-place.ensures ∙ ap (word t) c.row_start.ensures.value in
    let high : c.loop-number.least ≤ (row_of t n).place = omega arith in
    subst (λ p. AreSoFar c.args.full t (n + 1) (p + 1)) (sym is)
    (more c.args.full t n c.loop-number.least c.loop-number.invariant high (c.is_row.ensures.0 c.if-not-is_row.false))

pub returns : goal.returns
returns c =
    let is : c.loop-number.number ≡ c.args.count = omega arith in
    (λ t. subst (AreRows c.args.full c.args.trailer.now) is c.loop-number.invariant.rows, λ x. refl)
