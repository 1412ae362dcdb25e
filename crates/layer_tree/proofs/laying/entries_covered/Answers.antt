use Rattle.std.proofs.Common.{refl}
use Rattle.layer_tree.proofs.laying.entries_covered.Goals as goal

pub kept_inside-requires : goal.kept_inside-requires
kept_inside-requires g c = c.requires.marks

pub kept_inside-requires-2 : goal.kept_inside-requires-2
kept_inside-requires-2 g c = c.requires.hidden

pub same-high : goal.same-high
same-high g c = refl

pub returns : goal.returns
returns g c = record {
  unmarked = c.in_ok-unmarked.unmarked;
  kept = c.in_ok-kept.kept;
  unmarked_is = c.in_ok-unmarked.ensures;
  kept_is = c.in_ok-kept.ensures;
  covered = c.in_ok-entries.ensures;
}
