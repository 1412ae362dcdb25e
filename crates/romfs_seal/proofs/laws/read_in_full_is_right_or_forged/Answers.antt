use Rattle.romfs_seal.proofs.InFull.{read_or_forged}
use Rattle.romfs_seal.proofs.laws.read_in_full_is_right_or_forged.Goals as goal

pub returns : goal.returns
returns c s xs ys sized read size some small y = read_or_forged s sized xs ys read size some small y
