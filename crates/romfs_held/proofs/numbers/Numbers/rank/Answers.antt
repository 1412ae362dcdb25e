use Rattle.romfs_held.proofs.Runs.{rank_here}
use Rattle.romfs_held.proofs.numbers.Numbers.rank.Goals as goal

pub returns-in-Some : goal.returns-in-Some
returns-in-Some c = let at = rw c.in-Some.is at c.found_soon.ensures in rank_here _ c.requires _ _ at.0 at.1
