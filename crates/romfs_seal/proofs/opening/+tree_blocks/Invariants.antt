use Rattle.romfs_seal.proofs.opening.+tree_blocks.Given as goal

abbrev pub decreases-tree_blocks : goal.decreases-tree_blocks
decreases-tree_blocks l = l.levels
