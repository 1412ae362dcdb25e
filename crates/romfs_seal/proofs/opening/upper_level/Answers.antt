use Rattle.std.proofs.Common.{◌≡◌, ◌∙◌, ap, subst, inr, ◌-◌, ◌*◌, length, arith, rules}
use Rattle.devices.specs.Tree.{blocks_above, tree_blocks}
use Rattle.devices.specs.File.{blocks_of}
use Rattle.devices.specs.Given.{IsShort}
use Rattle.romfs_seal.proofs.Whole.{any_err, upper_short}
use Rattle.romfs_seal.proofs.opening.upper_level.Goals as goal

pub returns-in_err-read_tree-clause-err : goal.returns-in_err-read_tree-clause-err
returns-in_err-read_tree-clause-err g c =
    let s = g.F.NamedFiles.seal c.args.files.now in
    let m = blocks_above s.algorithm (blocks_above s.algorithm (blocks_of s.size)) in
    let one : c.blocks_above.result ≡ blocks_above s.algorithm (blocks_of s.size) =
    c.blocks_above.ensures.count ∙ ap (λ k. blocks_above c.algorithm-algorithm.result (blocks_of k)) c.size.ensures
    ∙ ap (λ a. blocks_above a (blocks_of s.size)) c.algorithm-algorithm.ensures in
    let two : c.blocks_above-count.result ≡ m =
    c.blocks_above-count.ensures.count ∙ ap (λ k. blocks_above c.algorithm-algorithm.result k) one
    ∙ ap (λ a. blocks_above a (blocks_above s.algorithm (blocks_of s.size))) c.algorithm-algorithm.ensures in
    let place : 4096 * c.tree_blocks.result ≡ 4096 * tree_blocks s.algorithm (c.args.levels - 2) m =
    ap (λ k. 4096 * k) (c.tree_blocks.ensures.count ∙ ap (λ k. tree_blocks c.algorithm-algorithm.result (c.args.levels - 2) k) two
    ∙ ap (λ a. tree_blocks a (c.args.levels - 2) m) c.algorithm-algorithm.ensures) in
    let long : length c.deref_mut.result.now ≡ c.blocks_above-count.result * 4096 = search rules in
    let size : length c.deref_mut.result.now ≡ 4096 * m = omega (arith, long, two) in
    any_err c.from_residual-in_err-read_tree.result
    (λ fault. inr (upper_short s (g.met.F.NamedFiles.sized c.args.files.now) c.args.levels c.requires.many c.requires.has
    (subst (λ k. IsShort s.tree k (4096 * m)) place
    (subst (λ k. IsShort s.tree (4096 * c.tree_blocks.result) k) size c.in_err-read_tree.ensures.err))))
