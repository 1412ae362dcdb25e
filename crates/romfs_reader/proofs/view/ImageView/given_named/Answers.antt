use Rattle.romfs_reader.proofs.Given.{from_inside}
use Rattle.romfs_reader.proofs.view.ImageView.given_named.Goals as goal

pub named_head-requires-clause-inside : goal.named_head-requires-clause-inside
named_head-requires-clause-inside c =
    rw c.self.view_is (from_inside c.args.self.now (rw c.self.view_is at c.self.invariant.0) c.args.offset c.requires.head.from).1
