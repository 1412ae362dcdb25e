use Rattle.std.proofs.Common.{◌≡◌, length, arith}
use Rattle.romfs_held.specs.Blocks.{filled}
use Rattle.romfs_held.proofs.Fronts.{filled_long, front_of, name_front}
use Rattle.romfs_held.proofs.blocks.name_of_blocks.Goals as goal

pub returns-then-name_len-near : goal.returns-then-name_len-near
returns-then-name_len-near c =
    let a = filled c.args.size c.args.blocks.now.all.now c.args.bytes.now in
    let long : length a ≡ c.args.size = filled_long _ _ _ in
    name_front a c.args.at _ (front_of _ _ _ _ _ c.run-near.ensures) _ c.requires.name c.if-name_len-near.true (omega arith)
