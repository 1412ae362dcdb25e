use Rattle.std.proofs.Common.{◌≡◌, ◌∙◌, ap, subst, IfOk}
use Rattle.devices.specs.Tree.{blocks_above}
use Rattle.romfs_seal.specs.Digests.{digest_bytes}
use Rattle.romfs_seal.proofs.Tops.{root_none, root_up}
use Rattle.romfs_seal.proofs.opening.+root_over.Goals as goal

pub returns-then-levels-eq0 : goal.returns-then-levels-eq0
returns-then-levels-eq0 g t c =
    let s = g.F.NamedFiles.seal c.args.files.now in
    c.hash.ensures ∙ root_none s.algorithm s.hash c.args.levels c.args.bytes.now c.args.blocks c.if-levels-eq0.true

pub returns : goal.returns
returns g t c =
    let s = g.F.NamedFiles.seal c.args.files.now in
    subst (λ v. IfOk c.root_over.result (λ top. digest_bytes top ≡ v))
    (root_up s.algorithm s.hash c.args.levels c.args.bytes.now c.deref.result.now c.args.blocks c.blocks_above.result
    c.if-levels-eq0.false (c.deref.ensures.value ∙ c.in_ok-next.ensures.value)
    (c.blocks_above.ensures.count ∙ ap (λ a. blocks_above a c.args.blocks) c.algorithm.ensures))
    c.root_over.ensures
