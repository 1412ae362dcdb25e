use Rattle.romfs_reader.proofs.view.ImageView.members.Goals as goal

pub returns-clause-given : goal.returns-clause-given
returns-clause-given c = rw c.self.view_is at c.members_of.ensures.given
