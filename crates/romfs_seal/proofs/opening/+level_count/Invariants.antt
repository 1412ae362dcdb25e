use Rattle.romfs_seal.proofs.opening.+level_count.Given as goal

abbrev pub decreases-level_count : goal.decreases-level_count
decreases-level_count l = l.blocks
