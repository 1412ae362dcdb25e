use Rattle.std.proofs.Common.{◌<◌, ◌^◌, ◌∙◌, ap, drop, length, sym, subst}
use Rattle.romfs_format.specs.Trailer.{first_rows, row_count, trailer}
use Rattle.romfs_format.proofs.Trailers.{kept_trailer}
use Rattle.romfs_rows.specs.Order.{AreOrdered}
use Rattle.romfs_rows.proofs.Kept.{ordered}
use Rattle.romfs_rows.proofs.rows.Rows.of.Goals as goal

pub invariant_of-result : goal.invariant_of-result
unfolding trailer
invariant_of-result g c =
    let b = c.args.image.now in
    let kept = kept_trailer b c.in-Some.ensures.has c.requires.whole in
    let is = c.in_ok-rows-in-Some.ensures.all
    ∙ ap (λ t. first_rows t (row_count t)) (c.at.ensures ∙ ap (λ p. drop p b) c.in-Some.ensures.is) in
    subst AreOrdered (sym is) (ordered _ _ _ kept.rows (subst (λ rows. length rows < 2 ^ 32) is c.in_ok-rows-in-Some.ensures.few))
