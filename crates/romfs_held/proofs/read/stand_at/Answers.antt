use Rattle.std.proofs.Common.{◌∙◌, sym, drop, arith, length-drop}
use Rattle.std.proofs.lemmas.List.{get_or-drop}
use Rattle.romfs_held.proofs.Views.{same_front, other_front, short_front}
use Rattle.romfs_held.proofs.read.stand_at.Goals as goal

pub returns-then-len-at : goal.returns-then-len-at
returns-then-len-at c =
    let d = length-drop c.args.at c.args.image.now in
    sym (short_front (drop c.args.at c.args.image.now) c.args.bytes.now (omega (arith, c.len.ensures, c.if-len-at.true)))

pub returns-then-byte_at-bytes : goal.returns-then-byte_at-bytes
returns-then-byte_at-bytes c = sym (other_front (drop c.args.at c.args.image.now) c.args.bytes.now c.loop-number.number (omega arith)
    (λ e. c.if-byte_at-bytes.true (c.byte_at.ensures ∙ sym (get_or-drop c.args.at c.args.image.now c.loop-number.number 0) ∙ e)))

pub returns : goal.returns
returns c =
    let d = length-drop c.args.at c.args.image.now in
    sym (same_front (drop c.args.at c.args.image.now) c.args.bytes.now (omega arith) (λ i l.
    get_or-drop c.args.at c.args.image.now i 0 ∙ c.loop-number.invariant i (omega arith)))
