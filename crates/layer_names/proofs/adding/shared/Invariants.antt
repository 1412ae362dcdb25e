use Rattle.std.proofs.Common.{◌≡◌, ◌≤◌, ◌-◌, length, take}
use Rattle.layer_names.proofs.adding.shared.Given as goal

-- the first bytes are alike
abbrev pub invariant-loop-len : goal.invariant-loop-len
invariant-loop-len l = record { bound_a : l.len ≤ length l.a; bound_b : l.len ≤ length l.b; same : take l.len l.a ≡ take l.len l.b }

-- each turn takes one byte more of the first name
abbrev pub decreases-loop-len : goal.decreases-loop-len
decreases-loop-len l = length l.a - l.len
