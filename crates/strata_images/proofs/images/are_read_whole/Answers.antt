use Rattle.std.proofs.Common.{◌≡◌, ◌⊎◌, inl, inr, true}
use Rattle.strata_images.proofs.Opened.{stays}
use Rattle.strata_images.proofs.Small.{told_left, told_whole}
use Rattle.strata_images.proofs.images.are_read_whole.Goals as goal
use Rattle.strata_images.proofs.images.are_read_whole.Goals.{then-line-2-via-then-line-2, then-line-2-via-else-line-2+then-line-3}

pub returns-then-line : goal.returns-then-line
returns-then-line g c = told_whole c.args.line.now c.if-line.true

pub returns-then-line-2 : goal.returns-then-line-2
returns-then-line-2 g c =
    let line = c.args.line.now in
    let said : (line.in_files ≡ true) ⊎ (line.device ≡ true) = elim c.then-line-2.branch [
      | then-line-2-via-then-line-2 w ↦ inl w.if-line-2.true
      | then-line-2-via-else-line-2+then-line-3 w ↦ inr w.if-line-3.true
    ] in
    told_left line c.if-line.false (stays line.in_files line.device said)
