use Rattle.std.proofs.Common.{◌∙◌}
use Rattle.romfs_held.proofs.Fronts.{word_of_bytes}
use Rattle.romfs_held.proofs.blocks.word_by_bytes.Goals as goal

pub returns : goal.returns
returns c = c.read_u32.ensures
    ∙ word_of_bytes c.args.size _ _ c.args.at c.requires.at _ _ _ _ c.byte_in.ensures c.byte_in-2.ensures
    c.byte_in-3.ensures c.byte_in-4.ensures
