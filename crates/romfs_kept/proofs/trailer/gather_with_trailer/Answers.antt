use Rattle.std.proofs.Common.{◌∙◌, ap, length, subst}
use Rattle.romfs_held.specs.Blocks.{IsFollowed}
use Rattle.romfs_kept.proofs.Tails.{with_tail}
use Rattle.romfs_kept.proofs.trailer.gather_with_trailer.Goals as goal

pub returns-in_ok-followed-in-Some-clause-ok : goal.returns-in_ok-followed-in-Some-clause-ok
returns-in_ok-followed-in-Some-clause-ok g c =
    with_tail _ c.in_ok-front.front c.in-Some.tail.items _ c.len-full.result c.padded.result c.in_ok-front.ensures.ok
    (c.len-full.ensures ∙ ap length c.held.ensures.value) (rw c.in-Some.is at c.in_ok-read_trailer.ensures.ok) c.padded.ensures.value
    (subst (λ t. IsFollowed c.in_ok-front.front c.padded.result t c.in_ok-followed-in-Some.field-0) c.deref.ensures.value
    c.in_ok-followed-in-Some.ensures)
