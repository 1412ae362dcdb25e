-- Sound images: all of a list, and so the one at each place.
use Rattle.std.proofs.Common.{ℕ, List}
use Rattle.std.specs.List.{AllByRecursion}
use Rattle.romfs_reader.specs.Images.{IsImage}
use Rattle.layer_paths.proofs.Lists.{all_get}
use Rattle.node_list.specs.Below.{AreImages}

-- if all layers are sound images, the one at each place is
pub are_images : (layers : List (List ℕ)) → AllByRecursion IsImage layers → AreImages layers
are_images layers sound = record { each = λ i a is. all_get IsImage layers i a sound is }
