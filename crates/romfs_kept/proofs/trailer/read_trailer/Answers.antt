use Rattle.std.proofs.Common.{◌∙◌, refl, inr, subst, arith}
use Rattle.romfs_kept.specs.Tails.{BeginsTrailer}
use Rattle.romfs_kept.proofs.Tails.{room_is, tail_far, tail_read}
use Rattle.romfs_kept.proofs.trailer.read_trailer.Goals as goal

pub returns-clause-ok : goal.returns-clause-ok
returns-clause-ok g c =
    tail_read (g.S.Contents.source c.args.source.now) c.padded-place.result c.saturating_sub-room.result _ c.in_ok-end.end _
    c.padded-place.ensures.value (room_is _ _ _ _ c.size.ensures.size c.saturating_sub-room.ensures)
    (subst (λ x. BeginsTrailer (g.S.Contents.source c.args.source.now) c.padded-place.result x) c.if-not-branch.false
    c.in_ok-begins_trailer.ensures.ok)
    c.in_ok-end.ensures.ok c.in_ok-load.ensures.held (c.in_ok-load.ensures.long ∙ c.min-count.ensures)

pub returns-then-place-count-ge-PLACES-clause-err : goal.returns-then-place-count-ge-PLACES-clause-err
returns-then-place-count-ge-PLACES-clause-err g c =
    inr (
      refl,
      tail_far (g.S.Contents.source c.args.source.now) c.padded-place.result c.saturating_sub-room.result _ c.in_ok-end.end
          c.padded-place.ensures.value (room_is _ _ _ _ c.size.ensures.size c.saturating_sub-room.ensures)
          (subst (λ x. BeginsTrailer (g.S.Contents.source c.args.source.now) c.padded-place.result x) c.if-not-branch.false
          c.in_ok-begins_trailer.ensures.ok)
          c.in_ok-end.ensures.ok (omega (arith, c.min-count.ensures)),
    )
