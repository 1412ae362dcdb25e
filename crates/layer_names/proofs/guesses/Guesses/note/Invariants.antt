use Rattle.std.proofs.Common.{◌≡◌, length}
use Rattle.layer_names.proofs.guesses.Guesses.note.Given as goal

-- there are as many slots as before
abbrev pub invariant-loop-step : goal.invariant-loop-step
invariant-loop-step g l = length l.self-inside.slots.items ≡ l.fn.self
