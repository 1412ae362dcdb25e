use Rattle.std.proofs.Common.{◌∙◌, ◌<◌, ◌⊎◌, ap, subst, inl, inr, arith, codes}
use Rattle.romfs_format.specs.Fields.{word}
use Rattle.romfs_kept.specs.Tails.{BeginsWith}
use Rattle.romfs_kept.proofs.Tails.{part_whole, part_cut}
use Rattle.romfs_kept.proofs.trailer.part_end.Goals.{else-size-via-then-size+else-size-room, else-size-via-else-size}
use Rattle.romfs_kept.proofs.trailer.part_end.Goals as goal

pub returns-then-size-room-clause-ok : goal.returns-then-size-room-clause-ok
returns-then-size-room-clause-ok g c =
    let b = g.S.Contents.source c.args.source.now in
    part_whole b c.args.place c.args.room _ c.load.new.bytes.items
    (subst (λ x. BeginsWith b c.args.place (codes "-attr02-") x) c.if-not-branch.false c.in_ok-begins_with.ensures.ok)
    c.requires.room c.in_ok-load.ensures.held c.in_ok-load.ensures.long
    (c.from-size.ensures ∙ c.word.ensures ∙ ap (λ t. word t 8) c.deref.ensures.value)
    (omega arith) (omega arith)

pub returns-else-size-clause-ok : goal.returns-else-size-clause-ok
returns-else-size-clause-ok g c =
    let b = g.S.Contents.source c.args.source.now in
    let size = c.from-size.result in
    let h : (size < 16) ⊎ (c.args.room < size) = elim c.else-size.branch [
      | else-size-via-then-size+else-size-room w ↦ inr w.if-size-room.false
      | else-size-via-else-size w ↦ inl w.if-size.false
    ] in
    part_cut b c.args.place c.args.room size c.load.new.bytes.items
    (subst (λ x. BeginsWith b c.args.place (codes "-attr02-") x) c.if-not-branch.false c.in_ok-begins_with.ensures.ok)
    c.requires.room c.in_ok-load.ensures.held c.in_ok-load.ensures.long
    (c.from-size.ensures ∙ c.word.ensures ∙ ap (λ t. word t 8) c.deref.ensures.value)
    h
