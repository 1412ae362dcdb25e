use Rattle.romfs_image.proofs.Gathered.{judged_alike}
use Rattle.romfs_image.proofs.laws.kept_is_judged_as_its_bytes.Goals as goal

pub returns : goal.returns
returns c = judged_alike
