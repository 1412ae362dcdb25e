use Rattle.romfs_reader.proofs.Given.{from_inside}
use Rattle.romfs_reader.proofs.view.ImageView.given.Goals as goal

pub head_at-requires-clause-inside : goal.head_at-requires-clause-inside
head_at-requires-clause-inside c =
    rw c.self.view_is (from_inside c.args.self.now (rw c.self.view_is at c.self.invariant.0) c.args.offset c.requires.from).1
