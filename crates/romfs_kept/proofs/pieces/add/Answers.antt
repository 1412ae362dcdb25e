use Rattle.romfs_kept.proofs.Collecting.{one_more}
use Rattle.romfs_kept.proofs.pieces.add.Goals as goal

pub returns : goal.returns
returns g c = one_more _ _ _ _ c.in_ok-make_room.ensures c.in_ok-push.ensures.items
