use Rattle.romfs_image.proofs.Gathered.{judged_with_trailer}
use Rattle.romfs_image.proofs.laws.kept_with_trailer_is_judged_as_its_bytes.Goals as goal

pub returns : goal.returns
returns c = judged_with_trailer
