use Rattle.layer_tree.proofs.laying.marks_laid.Goals as goal

pub returns : goal.returns
returns g c = record { above = c.in_ok-above.above; above_is = c.in_ok-above.ensures; united_is = c.in_ok-marks.ensures }
