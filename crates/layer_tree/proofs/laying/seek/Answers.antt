use Rattle.std.proofs.Common.{◌≡◌, sym}
use Rattle.std.specs.declared.cmp.Ordering.{Ordering}
use Rattle.std.specs.declared.cmp.Ordering.TheVariants.{Less, Equal, Greater}
use Rattle.layer_tree.proofs.Stepping.{shorter, pass_one, from_here, first_named, none_named}
use Rattle.layer_tree.proofs.laying.seek.Goals as goal

equal_is_no_less : (o : Ordering) → o ≡ Equal → o ≡ Less → ⊥
equal_is_no_less o e l = cc

greater_is_no_less : (o : Ordering) → o ≡ Greater → o ≡ Less → ⊥
greater_is_no_less o e l = cc

pub loop-first-preserved : goal.loop-first-preserved
loop-first-preserved g c = pass_one _ _ _ _ _ c.loop-first.invariant c.in-Some.ensures.cases.0 (sym c.in-Less.ensures)

pub loop-first-smaller : goal.loop-first-smaller
loop-first-smaller g c = shorter _ _ _ c.in-Some.ensures.cases.0

pub returns-in-Equal : goal.returns-in-Equal
returns-in-Equal g c = record {
  rest = from_here _ _ _ _ _ c.loop-first.invariant c.in-Some.ensures.cases.0 (equal_is_no_less _ (sym c.in-Equal.ensures));
  first = first_named _ _ _ _ _ c.loop-first.invariant c.in-Some.ensures.cases.0 (sym c.in-Equal.ensures);
}

pub returns-in-Greater : goal.returns-in-Greater
returns-in-Greater g c = record {
  rest = from_here _ _ _ _ _ c.loop-first.invariant c.in-Some.ensures.cases.0 (greater_is_no_less _ (sym c.in-Greater.ensures));
  first = none_named _ _ _ _ _ c.loop-first.invariant c.in-Some.ensures.cases.0 (sym c.in-Greater.ensures);
}
