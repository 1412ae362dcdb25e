use Rattle.std.proofs.Common.{◌≡◌, ◌∙◌, sym, ap, subst, refl, ◌+◌, ◌*◌, ◌/◌, ◌++◌, length, drop}
use Rattle.devices.specs.Tree.{fan, digest_at}
use Rattle.devices.specs.File.{blocks_of}
use Rattle.romfs_seal.proofs.Fans.{above_within, small_digest}
use Rattle.devices.specs.Given.{IsShort}
use Rattle.devices.specs.Seal.{IsGiven}
use Rattle.romfs_seal.specs.Kept.{IsLeaf, first_under}
use Rattle.romfs_seal.proofs.Leaves.{leaf_none, leaf_kept}
use Rattle.romfs_seal.proofs.Whole.{any_on, leaf_short, leaf_other, given_block}
use Rattle.romfs_seal.proofs.sealed.Sealed.load_leaf.Goals as goal

pub returns-then-self-eq0-clause-ok : goal.returns-then-self-eq0-clause-ok
returns-then-self-eq0-clause-ok g c =
    let s = g.F.NamedFiles.seal c.args.self.now.files in
    let kept : c.put_front.new.room ≡ c.args.self.now.kept.items ++ drop (length c.args.self.now.kept.items) c.args.leaf.now =
    c.put_front.ensures ∙ ap (λ l. l ++ drop (length l) c.args.leaf.now) c.deref.ensures.value in
    subst (IsLeaf s (first_under s.algorithm c.args.block)) (sym kept)
    (leaf_none s c.args.self.now.levels c.args.self.now.lowest c.args.self.now.kept.items c.args.leaf.now c.args.block c.if-self-eq0.true
    c.args.self.now.opened c.requires.long (small_digest s.algorithm))

pub returns-in_err-fill_tree-clause-err : goal.returns-in_err-fill_tree-clause-err
returns-in_err-fill_tree-clause-err g c =
    let s = g.F.NamedFiles.seal c.args.self.now.files in
    let by : c.fan.result ≡ fan s.algorithm = c.fan.ensures.count ∙ ap fan c.algorithm.ensures in
    let lacks : IsShort s.tree (c.args.self.now.lowest + 4096 * (c.args.block / fan s.algorithm)) 4096 =
    subst (λ k. IsShort s.tree (c.args.self.now.lowest + 4096 * (c.args.block / k)) 4096) by c.in_err-fill_tree.ensures.err in
    any_on c.from_residual.result
    (leaf_short s c.args.self.now.levels c.args.self.now.lowest c.args.self.now.kept.items (c.args.block / fan s.algorithm)
    c.if-self-eq0.false c.args.self.now.opened (above_within s.algorithm (blocks_of s.size) c.args.block c.requires.within) lacks)

pub returns-then-has_digest-clause-ok : goal.returns-then-has_digest-clause-ok
returns-then-has_digest-clause-ok g c =
    let s = g.F.NamedFiles.seal c.args.self.now.files in
    let by : c.fan.result ≡ fan s.algorithm = c.fan.ensures.count ∙ ap fan c.algorithm.ensures in
    let lowest = c.args.self.now.lowest in
    let kept = c.args.self.now.kept.items in
    let leaf = c.fill_tree.new.block in
    let given : IsGiven s.tree (lowest + 4096 * (c.args.block / fan s.algorithm)) 4096 leaf =
    subst (λ k. IsGiven s.tree (lowest + 4096 * (c.args.block / k)) 4096 leaf) by c.in_ok-fill_tree.ensures.ok in
    let there : s.hash leaf ≡ digest_at s.algorithm kept (c.args.block / fan s.algorithm) =
    c.if-has_digest.ensures.there refl ∙ ap (λ l. digest_at s.algorithm l (c.args.block / c.fan.result)) c.deref-2.ensures.value
    ∙ ap (λ k. digest_at s.algorithm kept (c.args.block / k)) by in
    leaf_kept s c.args.self.now.levels lowest kept leaf c.args.block c.if-self-eq0.false c.args.self.now.opened
    (above_within s.algorithm (blocks_of s.size) c.args.block c.requires.within)
    (given_block s.tree (lowest + 4096 * (c.args.block / fan s.algorithm)) leaf given) given there

pub returns-else-has_digest-clause-err : goal.returns-else-has_digest-clause-err
returns-else-has_digest-clause-err g c =
    let s = g.F.NamedFiles.seal c.args.self.now.files in
    let by : c.fan.result ≡ fan s.algorithm = c.fan.ensures.count ∙ ap fan c.algorithm.ensures in
    let lowest = c.args.self.now.lowest in
    let kept = c.args.self.now.kept.items in
    let leaf = c.fill_tree.new.block in
    let given : IsGiven s.tree (lowest + 4096 * (c.args.block / fan s.algorithm)) 4096 leaf =
    subst (λ k. IsGiven s.tree (lowest + 4096 * (c.args.block / k)) 4096 leaf) by c.in_ok-fill_tree.ensures.ok in
    leaf_other s c.args.self.now.levels lowest kept leaf
    (c.args.block / fan s.algorithm) c.if-self-eq0.false c.args.self.now.opened
    (above_within s.algorithm (blocks_of s.size) c.args.block c.requires.within) given
    (λ e. c.if-has_digest.ensures.not refl
    (e ∙ ap (λ k. digest_at s.algorithm kept (c.args.block / k)) (sym by)
    ∙ ap (λ l. digest_at s.algorithm l (c.args.block / c.fan.result)) (sym c.deref-2.ensures.value)))
