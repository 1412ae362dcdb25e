use Rattle.std.proofs.Common.{refl}
use Rattle.layer_tree.proofs.laying.entries_laid.Goals as goal

pub clashes_both_ways-requires : goal.clashes_both_ways-requires
clashes_both_ways-requires g c = record { low = c.requires.low; high = c.requires.high }

pub same-low : goal.same-low
same-low g c = refl

pub same-high : goal.same-high
same-high g c = refl

pub same-replaced : goal.same-replaced
same-replaced g c = refl

pub entries_covered-requires : goal.entries_covered-requires
entries_covered-requires g c = record { marks = c.requires.marks; hidden = c.in_ok-hidden.ensures.hidden.uncut }

pub returns : goal.returns
returns g c = record {
  hidden = c.in_ok-hidden.hidden;
  hidden_is = c.in_ok-hidden.ensures.hidden;
  replaced_is = c.in_ok-hidden.ensures.replaced;
  covers = c.in_ok-entries.ensures;
}
