use Rattle.romfs_kept.proofs.Walks.{gathered}
use Rattle.romfs_kept.proofs.gathering.gather.Goals as goal

pub returns-clause-ok : goal.returns-clause-ok
returns-clause-ok g c =
    rw (← c.in_ok-reader.ensures.source)
    (gathered g.S.Contents.source c.in_ok-reader.reader c.walk.new.pieces.items _
    (rw (c.in_ok-walk.ensures.same, c.in_ok-root.ensures.same) at c.size.ensures.within)
    (rw (← c.in_ok-reader.ensures.source) at c.in_ok-reader.ensures.reach)
    (rw (c.in_ok-walk.ensures.same, c.in_ok-root.ensures.same) at c.in_ok-walk.ensures.ok)
    (rw (c.size.ensures.value, c.in_ok-walk.ensures.same, c.in_ok-root.ensures.same) at c.in_ok-pack.ensures.size)
    (rw (c.size.ensures.value, c.in_ok-walk.ensures.same, c.in_ok-root.ensures.same) at c.in_ok-pack.ensures.bytes))
