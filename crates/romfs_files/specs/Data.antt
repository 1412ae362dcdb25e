-- What the data of an image are read from.
use Rattle.devices.specs.Sources.{Source, held, sealed, unknown}
use Rattle.romfs_seal.specs.Named.{seal_of}
use Rattle.romfs_files.specs.declared.image_data.ImageData.{ImageData}
use Rattle.romfs_files.specs.declared.image_data.ImageData.TheVariants.{File, Memory, Sealed}

-- what is known of the data, and what reads from them may give
abbrev pub source_of : {F A : Type 0} → ImageData F A → Source
source_of (File file) = unknown
source_of (Memory bytes) = held bytes.items
source_of (Sealed name) = sealed (seal_of name)
