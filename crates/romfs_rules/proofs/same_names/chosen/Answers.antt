use borrow.Author.Count.{falls}
use Rattle.romfs_rules.proofs.HeadNumbers.{chooses_plain, chooses_noted}
use Rattle.romfs_rules.proofs.same_names.chosen.Goals as goal
use Rattle.romfs_rules.proofs.same_names.chosen.Goals.{then-noted-number+in_ok-push, else-noted-number}

pub loop-number-preserved : goal.loop-number-preserved
loop-number-preserved g c =
    let at = c.loop-number.number in
    elim c.if-noted-number.branch [
      | then-noted-number+in_ok-push w ↦ rw (w.found-is, w.in_ok-push.ensures.items)
          (chooses_noted _ _ at _ c.loop-number-test.true c.requires.rising c.loop-number.invariant
          w.if-noted-number.true)
      | else-noted-number w ↦ rw w.found-is (chooses_plain _ _ at _ c.loop-number-test.true c.requires.rising c.loop-number.invariant
          w.if-noted-number.false)
    ]

pub loop-number-smaller : goal.loop-number-smaller
loop-number-smaller g c = falls _ _ c.loop-number-test.true
