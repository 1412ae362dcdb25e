use Rattle.std.proofs.Common.{◌≡◌, refl, ◌∙◌, ap, subst, ◌*◌}
use Rattle.devices.specs.Seal.{IsGiven}
use Rattle.romfs_seal.proofs.Parts.{part_of, read_block}
use Rattle.romfs_seal.proofs.Whole.{block_other}
use Rattle.romfs_seal.proofs.sealed.Sealed.read_whole.Goals as goal

pub returns-then-has_digest-clause-ok : goal.returns-then-has_digest-clause-ok
returns-then-has_digest-clause-ok g c =
    let s = g.F.NamedFiles.seal c.args.self.now.files in
    let count : c.min-count.result ≡ part_of s.size c.args.index = c.min-count.ensures ∙ ap (λ k. part_of k c.args.index) c.size.ensures in
    read_block s c.args.first c.args.leaf.now c.args.index c.fill_image.new.block
    c.requires.leaf c.requires.from c.requires.under c.requires.within
    (subst (λ k. IsGiven s.image (4096 * c.args.index) k c.fill_image.new.block) count c.in_ok-fill_image.ensures.ok)
    (c.if-has_digest.ensures.there refl)

pub returns-else-has_digest-clause-err : goal.returns-else-has_digest-clause-err
returns-else-has_digest-clause-err g c =
    let s = g.F.NamedFiles.seal c.args.self.now.files in
    let count : c.min-count.result ≡ part_of s.size c.args.index = c.min-count.ensures ∙ ap (λ k. part_of k c.args.index) c.size.ensures in
    block_other s (c.args.self.now.opened.sized) c.args.first c.args.leaf.now c.args.index c.fill_image.new.block
    c.requires.leaf c.requires.from c.requires.under c.requires.within
    (subst (λ k. IsGiven s.image (4096 * c.args.index) k c.fill_image.new.block) count c.in_ok-fill_image.ensures.ok)
    (c.if-has_digest.ensures.not refl)
