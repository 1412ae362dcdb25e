use Rattle.std.proofs.Common.{◌∙◌, sym}
use Rattle.romfs_kept.proofs.Walks.{front_added}
use Rattle.romfs_kept.proofs.gathering.keep_front.Goals as goal

pub returns-clause-front : goal.returns-clause-front
returns-clause-front g c =
    front_added g.S.Contents.source c.keep_row.new.reader _ c.keep_row.new.room _ _ c.size.ensures.within c.requires.empty
    c.in_ok-keep_row.ensures.room c.in_ok-keep_row.ensures.known (λ xs e. c.root_in.ensures.root xs (e ∙ sym c.size.ensures.value))
