use Rattle.romfs_format.proofs.Faults.{profile_sound}
use Rattle.romfs_held.specs.Images.{held_bytes}
use Rattle.romfs_image.proofs.check.check_held.Goals as goal

pub of_sound-requires : goal.of_sound-requires
of_sound-requires g c = profile_sound c.args.profile (held_bytes c.args.held) (rw c.held.ensures at c.in_ok-hold.ensures.ok)
