use Rattle.romfs_reader.proofs.image.Image.members.Goals as goal

pub returns-clause-given : goal.returns-clause-given
returns-clause-given g c = rw c.view.ensures at c.members.ensures.given
