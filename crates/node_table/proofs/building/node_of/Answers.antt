use Rattle.std.proofs.lemmas.Option.{slice_get_within}
use Rattle.node_table.proofs.building.node_of.Goals as goal

pub bounds-images-said : goal.bounds-images-said
bounds-images-said g c = slice_get_within c.args.images.now c.value-said.result.place.layer c.requires.image
    (rw c.value-said.ensures c.requires.is)
