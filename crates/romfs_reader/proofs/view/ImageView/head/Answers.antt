use Rattle.romfs_reader.proofs.Readings.{given_place}
use Rattle.romfs_reader.proofs.view.ImageView.head.Goals as goal

pub returns-clause-given : goal.returns-clause-given
returns-clause-given c =
    given_place c.args.self.now (rw c.self.view_is at c.self.invariant.0) c.place_at.result c.args.offset
    (rw c.self.view_is at c.place_at.ensures)
