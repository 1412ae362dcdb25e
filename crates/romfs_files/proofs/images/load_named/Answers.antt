use Rattle.std.proofs.Common.{inl, inr, refl}
use Rattle.romfs_files.proofs.Files.{if_far}
use Rattle.romfs_files.proofs.images.load_named.Goals as goal

pub returns-in-Err-Far-clause-err : goal.returns-in-Err-Far-clause-err
returns-in-Err-Far-clause-err g c =
    let far = if_far c.in-Err-Far.field-0 c.in-Err-Far.field-0-is c.in-Err-Far.ensures.err in inl (inr (inr (refl, far.0, far.1)))
