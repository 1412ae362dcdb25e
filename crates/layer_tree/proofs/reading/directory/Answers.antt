use Rattle.layer_tree.proofs.reading.directory.Goals as goal

pub folder-requires : goal.folder-requires
folder-requires g c = record {
  sound = c.requires.read.sound;
  given = c.requires.read.given;
  directory = c.requires.directory;
  members = rw c.deref-2.ensures.value c.in_ok-members.ensures;
  below = rw c.deref-2.ensures.value (rw c.deref.ensures.value at c.in_ok-below.ensures.built);
}
