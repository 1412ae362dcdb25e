use Rattle.std.proofs.Common.{◌∙◌, ap, length, take, arith}
use Rattle.std.specs.Prelude.{nat_eq}
use Rattle.std.specs.Cmp.Lexicographic.{pointwise}
use Rattle.romfs_kept.proofs.Tails.{too_short, letters_there}
use Rattle.romfs_kept.proofs.trailer.begins_with.Goals as goal

pub returns-then-room-lt8-clause-ok : goal.returns-then-room-lt8-clause-ok
returns-then-room-lt8-clause-ok g c = too_short _ _ _ _ c.requires.room c.if-room-lt8.true c.told-letters

pub returns-clause-ok : goal.returns-clause-ok
returns-clause-ok g c =
    letters_there _ _ _ c.args.letters.now c.load.new.bytes.items _ c.requires.room (omega arith) c.told-letters
    c.in_ok-load.ensures.held c.in_ok-load.ensures.long
    (c.starts_with.ensures.value
    ∙ ap (λ t. pointwise nat_eq c.args.letters.now (take (length c.args.letters.now) t)) c.deref.ensures.value)
