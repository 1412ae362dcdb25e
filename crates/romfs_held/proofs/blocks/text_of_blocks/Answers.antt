use Rattle.romfs_held.proofs.Fronts.{front_of, front_less, filled_long}
use Rattle.romfs_held.proofs.blocks.text_of_blocks.Goals as goal

pub returns-clause-value : goal.returns-clause-value
returns-clause-value c = c.text_in.ensures.value _ (filled_long _ _ _) (front_less _ _ _ (front_of _ _ _ _ _ c.run.ensures))
