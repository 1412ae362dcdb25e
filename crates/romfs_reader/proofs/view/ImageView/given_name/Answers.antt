use Rattle.romfs_reader.proofs.Given.{from_inside}
use Rattle.romfs_reader.proofs.view.ImageView.given_name.Goals as goal

pub name_of-requires-clause-inside : goal.name_of-requires-clause-inside
name_of-requires-clause-inside c =
    rw c.self.view_is (from_inside c.args.self.now (rw c.self.view_is at c.self.invariant.0) c.args.offset c.requires.head.from).1
