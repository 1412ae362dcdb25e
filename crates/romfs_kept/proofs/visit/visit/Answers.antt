use Rattle.std.proofs.Common.{subst, sym, take, arith}
use Rattle.romfs_kept.specs.Reads.{IsHeadRead}
use Rattle.romfs_kept.proofs.Visits.{head_all}
use Rattle.romfs_kept.proofs.visit.visit.Goals as goal

pub keep-requires-2-clause-head : goal.keep-requires-2-clause-head
keep-requires-2-clause-head g c =
    subst (λ n. IsHeadRead g.S.Contents.source c.read_head-3.new.reader c.args.at (take n c.read_head-3.new.room))
    (sym c.unwrap_or-count.ensures)
    (head_all g.S.Contents.source c.read_head-3.new.reader _ _ _ c.in_ok-end.ensures.room (omega arith) c.in_ok-end.ensures.end)
