use Rattle.std.proofs.Common.{◌∙◌, arith}
use Rattle.romfs_held.proofs.Fronts.{word_of_run}
use Rattle.romfs_held.proofs.blocks.word_in.Goals as goal

pub returns-then-near-ge4 : goal.returns-then-near-ge4
returns-then-near-ge4 c =
    c.read_u32.ensures ∙ word_of_run c.args.size _ _ c.args.at _ c.rest_of_block-near.ensures (omega arith) c.requires.at
