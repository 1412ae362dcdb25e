use Rattle.std.proofs.Common.{refl, ap, not}
use Rattle.stack_model.specs.Attributes.{is_directory}
use Rattle.layer_tree.proofs.Joining.{root_folder, root_uncut, lays_of}
use Rattle.layer_tree.proofs.laying.laid.Goals as goal

pub entries_laid-requires : goal.entries_laid-requires
entries_laid-requires g c = record {
  low = ap (λ k. not (is_directory k)) c.low.invariant.0;
  high = ap (λ k. not (is_directory k)) c.high.invariant.0;
  marks = c.high.invariant.1;
}

pub same-entries : goal.same-entries
same-entries g c = refl

pub invariant_of-result : goal.invariant_of-result
invariant_of-result g c =
    let e = c.in_ok-entries.ensures in
    let m = c.in_ok-marks.ensures in (
      root_folder e.covers.kept c.high.inside.entries c.in_ok-entries.entries e.covers.covered c.high.invariant.0,
      root_uncut c.low.inside.marks m.above c.in_ok-marks.marks m.united_is c.low.invariant.1
          (root_uncut c.in_ok-entries.replaced c.high.inside.marks m.above m.above_is e.replaced_is.uncut
          c.high.invariant.1),
    )

pub returns : goal.returns
returns g c =
    let e = c.in_ok-entries.ensures in
    let m = c.in_ok-marks.ensures in
    rw (← c.low.view_is, ← c.high.view_is)
    (lays_of c.low.inside.entries c.high.inside.entries e.covers.unmarked e.covers.kept c.in_ok-entries.entries
    c.low.inside.marks c.high.inside.marks e.hidden c.in_ok-entries.replaced m.above c.in_ok-marks.marks
    e.hidden_is e.replaced_is e.covers.unmarked_is e.covers.kept_is e.covers.covered
    m.above_is m.united_is)
