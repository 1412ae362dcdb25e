use Rattle.romfs_files.proofs.Unread.{unread_told}
use Rattle.romfs_files.proofs.images.load.Goals as goal

pub returns-in_err-end-clause-err : goal.returns-in_err-end-clause-err
returns-in_err-end-clause-err g c =
    unread_told _ _ _ _ c.load_from-images.result.end _ c.from_residual.result c.requires c.load_from-images.ensures.count c.in_err-end.was
    c.from_residual.ensures.1
