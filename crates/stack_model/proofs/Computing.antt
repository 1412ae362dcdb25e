-- What the proofs of worked examples open, so that what a stack shows is computed.
use Rattle.std.specs.Prelude.{⊤}
use Rattle.romfs_format.specs.Fields.{word, root, image, name_field, ended}
use Rattle.romfs_format.specs.Extended.{access_name, default_name}
use Rattle.stack_model.specs.Numbers.{nodes, number_of, parent, children}
use Rattle.stack_model.specs.Attributes.{data_of}

-- images, and the nodes of listed paths
unfoldable pub stacks_on_literals : ⊤
unfolding word root image name_field ended access_name default_name nodes number_of parent children data_of
stacks_on_literals = tt
