use Rattle.romfs_seal.proofs.opening.+root_over.Given as goal

abbrev pub decreases-root_over : goal.decreases-root_over
decreases-root_over g l = l.levels
