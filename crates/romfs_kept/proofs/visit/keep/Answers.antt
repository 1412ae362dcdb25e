use Rattle.std.proofs.Common.{◌∙◌, sym, subst}
use Rattle.romfs_kept.specs.Reads.{IsHeadRead}
use Rattle.romfs_kept.proofs.Visits.{has_visited}
use Rattle.romfs_kept.proofs.visit.keep.Goals as goal

pub returns-clause-known : goal.returns-clause-known
returns-clause-known g c =
    has_visited g.S.Contents.source c.keep_target.new.reader _ c.args.head.now _ c.add_row.new.pieces.items _ _ _ _ c.requires.at
    (subst (λ r. IsHeadRead g.S.Contents.source r c.args.at c.args.head.now) (sym (c.in_ok-keep_target.ensures.same ∙ c.note_used.ensures))
    c.requires.head) c.in_ok-add_row.ensures c.words_of-words.ensures.first c.words_of-words.ensures.second c.words_of-words.ensures.third
    c.in_ok-keep_target.ensures.known
