use Rattle.std.proofs.Common.{◌≡◌, ◌∙◌, sym, ap, ◌++◌, ◌*◌, ◌+◌, ◌-◌, length, take, drop, arith}
use Rattle.devices.specs.Tree.{digests, blocks_above}
use Rattle.romfs_seal.proofs.Levels.{blocks-above}
use Rattle.romfs_seal.proofs.Tops.{digests_more, no_digests, above_is}
use Rattle.romfs_seal.proofs.opening.above.Goals as goal

pub loop-i-init : goal.loop-i-init
loop-i-init g c = c.new-digests.ensures.items ∙ sym (no_digests (g.F.NamedFiles.seal c.args.files.now).hash c.args.bytes.now)

pub loop-i-preserved : goal.loop-i-preserved
loop-i-preserved g c =
    let h = (g.F.NamedFiles.seal c.args.files.now).hash in
    c.in_ok-extend_from_slice.ensures.items ∙ ap (λ d. c.loop-i.digests.items ++ d) (c.as_bytes.ensures ∙ c.hash.ensures)
    ∙ ap (λ d. d ++ h (take (c.loop-i.i * 4096 + 4096 - c.loop-i.i * 4096) (drop (c.loop-i.i * 4096) c.args.bytes.now))) c.loop-i.invariant
    ∙ sym (digests_more h c.args.bytes.now c.loop-i.i (c.loop-i.i * 4096)
    (c.loop-i.i * 4096 + 4096 - c.loop-i.i * 4096) (omega arith) (omega arith))

pub returns-clause-value : goal.returns-clause-value
returns-clause-value g c =
    let s = g.F.NamedFiles.seal c.args.files.now in
    let end : c.loop-i.i ≡ c.args.blocks = omega arith in
    let found : c.loop-i.digests.items ≡ digests s.hash c.args.bytes.now c.args.blocks =
    c.loop-i.invariant ∙ ap (λ k. digests s.hash c.args.bytes.now k) end in
    let count : c.blocks_above.result ≡ blocks_above s.algorithm c.args.blocks =
    c.blocks_above.ensures.count ∙ ap (λ a. blocks_above a c.args.blocks) c.algorithm.ensures in
    c.in_ok-resize.ensures.items
    ∙ above_is s.algorithm s.hash (g.met.F.NamedFiles.sized c.args.files.now) c.args.bytes.now c.args.blocks
    (c.blocks_above.result * 4096) c.loop-i.digests.len c.loop-i.digests.items found (omega (arith, count)) (omega arith)

pub returns-clause-long : goal.returns-clause-long
returns-clause-long g c =
    let s = g.F.NamedFiles.seal c.args.files.now in
    let value : c.resize.new.self.items ≡ _ = returns-clause-value g c in
    ap length value ∙ (blocks-above s.algorithm s.hash (g.met.F.NamedFiles.sized c.args.files.now) c.args.bytes.now c.args.blocks).whole
