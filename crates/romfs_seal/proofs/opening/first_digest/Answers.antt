use Rattle.std.proofs.Common.{inr}
use Rattle.romfs_seal.proofs.Whole.{any_err, first_short}
use Rattle.romfs_seal.proofs.opening.first_digest.Goals as goal

pub returns-in_err-fill_tree-clause-err : goal.returns-in_err-fill_tree-clause-err
returns-in_err-fill_tree-clause-err g c =
    any_err c.from_residual.result
    (λ fault. inr (first_short (g.F.NamedFiles.seal c.args.files.now) (g.met.F.NamedFiles.sized c.args.files.now) c.requires
    c.in_err-fill_tree.ensures.err))
