use Rattle.std.proofs.Common.{◌∙◌, ap, [], ◌∷◌, ◌++◌, arith}
use Rattle.std.specs.Int.{to_le_bytes, w64}
use Rattle.romfs_seal.proofs.FileBlocks.{descriptor_made}
use Rattle.romfs_seal.proofs.descriptor.descriptor_of.Goals as goal

pub returns : goal.returns
returns g c =
    c.in_ok-resize.ensures.items
    ∙ descriptor_made c.args.algorithm c.args.size c.number.result c.extend_from_slice-3.new.self.len c.args.root.now
    c.extend_from_slice-3.new.self.items c.requires (omega arith) c.number.ensures
    (c.in_ok-extend_from_slice-3.ensures.items
    ∙ ap (λ l. l ++ c.args.root.now)
    (c.in_ok-extend_from_slice-2.ensures.items
    ∙ ap (λ l. c.extend_from_slice.new.self.items ++ l) c.to_le_bytes.ensures
    ∙ ap (λ l. l ++ to_le_bytes w64 c.args.size)
    (c.in_ok-extend_from_slice.ensures.items
    ∙ ap (λ l. l ++ (1 ∷ c.number.result ∷ 12 ∷ 0 ∷ 0 ∷ 0 ∷ 0 ∷ 0 ∷ [])) c.new-made.ensures.items)))
