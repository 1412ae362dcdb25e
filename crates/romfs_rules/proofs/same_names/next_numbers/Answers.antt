use borrow.Author.Count.{falls}
use Rattle.std.proofs.Common.{◌≡◌, subst, length, refl, arith}
use Rattle.romfs_rules.proofs.HeadNumbers.{AreNextSoFar, follow_more, follow_all}
use Rattle.romfs_rules.proofs.same_names.next_numbers.Goals as goal

pub loop-at-preserved : goal.loop-at-preserved
loop-at-preserved g c = rw c.in_ok-push.ensures.items (follow_more _ _ _ _ _ c.loop-at.invariant c.next_number.ensures)

pub returns : goal.returns
returns g c =
    let e : c.loop-at.at-index ≡ length c.args.heads.now = omega arith in
    rw c.in_ok-push-2.ensures.items (follow_all _ _ _ _ refl
    (subst (λ n. AreNextSoFar c.args.volume.now.bytes.now c.args.heads.now c.loop-at.next.items n) e
    c.loop-at.invariant))

pub loop-at-smaller : goal.loop-at-smaller
loop-at-smaller g c = falls _ _ c.loop-at-test.true
