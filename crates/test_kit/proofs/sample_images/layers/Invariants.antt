use Rattle.std.proofs.Common.{◌≡◌, true}
use Rattle.romfs_reader.specs.Images.{all_whole}
use Rattle.test_kit.proofs.sample_images.layers.Given as goal

-- the images so far are held in full
abbrev pub invariant-loop-words : goal.invariant-loop-words
invariant-loop-words g l = all_whole l.images.items ≡ true
