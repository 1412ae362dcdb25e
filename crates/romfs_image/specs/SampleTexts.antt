-- Why images are not built, as printed.
use Rattle.std.specs.Prelude.{ℕ, List, codes}
use Rattle.romfs_image.specs.declared.sample.BuildFault.{BuildFault}
use Rattle.romfs_image.specs.declared.sample.BuildFault.TheVariants as build

-- why an image cannot be built
abbrev pub build_text : BuildFault → List ℕ
build_text build.Listing = codes "bad listing"
build_text build.Size = codes "image too large"
build_text build.Memory = codes "out of memory"
