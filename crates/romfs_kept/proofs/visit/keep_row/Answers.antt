use Rattle.std.proofs.Common.{subst, ◌/◌, arith}
use Rattle.romfs_kept.specs.Reads.{AreAdded}
use Rattle.romfs_kept.proofs.Visits.{row_added}
use Rattle.romfs_kept.proofs.visit.keep_row.Goals as goal

pub returns-clause-room : goal.returns-clause-room
returns-clause-room g c = rw c.note_used.ensures c.in_ok-read.ensures.room

pub returns-clause-known : goal.returns-clause-known
returns-clause-known g c =
    rw c.note_used.ensures
    (subst (λ n. AreAdded g.S.Contents.source c.read.new.self (c.args.at / 16) (n / 16) c.args.pieces.now.items c.add_row.new.pieces.items)
    c.read.auto.room
    (row_added g.S.Contents.source c.read.new.self _ _ _ c.read.new.room _ _ (omega (arith, c.requires.at)) (omega arith)
    c.in_ok-read.ensures.room c.in_ok-add_row.ensures))
