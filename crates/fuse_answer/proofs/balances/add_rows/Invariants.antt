use Rattle.fuse_answer.specs.Adding.{AddsGiven}
use Rattle.fuse_answer.proofs.balances.add_rows.Given as goal

-- the rows before the index are added
abbrev pub invariant-loop-index : goal.invariant-loop-index
invariant-loop-index g l = AddsGiven l.rows l.rows.from l.index l.initial.balances l.balances
