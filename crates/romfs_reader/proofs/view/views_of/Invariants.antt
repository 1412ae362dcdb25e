use Rattle.std.proofs.Common.{◌≡◌, take}
use Rattle.romfs_reader.specs.Images.{bytes_of}
use Rattle.romfs_reader.proofs.view.views_of.Given as goal

-- the images so far are lent
abbrev pub invariant-loop-image : goal.invariant-loop-image
invariant-loop-image g l = l.views.items ≡ bytes_of (take l.image-index l.images)
