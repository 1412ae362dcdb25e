use Rattle.std.proofs.Common.{◌≡◌}
use Rattle.layer_names.proofs.guesses.Guesses.note_all.Given as goal

-- there are as many slots as before
abbrev pub invariant-loop-at : goal.invariant-loop-at
invariant-loop-at g l = l.self ≡ l.fn.self
