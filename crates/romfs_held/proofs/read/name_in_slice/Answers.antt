use Rattle.std.proofs.Common.{◌∙◌, ◌+◌, ap, drop, take}
use Rattle.std.proofs.lemmas.List.{take_rest}
use Rattle.romfs_held.proofs.NameBytes.{name_taken}
use Rattle.romfs_held.proofs.read.name_in_slice.Goals as goal

pub returns : goal.returns
returns c =
    ap (λ xs. take c.args.name_len xs) (take_rest c.args.bytes.now (c.args.at + 16))
    ∙ ap (λ n. take n (drop (c.args.at + 16) c.args.bytes.now)) c.requires.name
    ∙ name_taken c.args.bytes.now c.args.at
