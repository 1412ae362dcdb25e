use Rattle.romfs_held.proofs.Fronts.{front_of, front_less, filled_long}
use Rattle.romfs_held.proofs.blocks.head_of_blocks.Goals as goal

pub returns-then-near-ge-HEAD_SIZE : goal.returns-then-near-ge-HEAD_SIZE
returns-then-near-ge-HEAD_SIZE c = c.head_in.ensures _ (filled_long _ _ _) (front_of _ _ _ _ _ c.run-near.ensures)

pub head_in_blocks-requires-clause-name : goal.head_in_blocks-requires-clause-name
head_in_blocks-requires-clause-name c =
    c.name_len_in-name_len.ensures _ (filled_long _ _ _) (front_less _ _ _ (front_of _ _ _ _ _ c.run-name.ensures))
