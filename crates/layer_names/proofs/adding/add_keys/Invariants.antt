use Rattle.std.proofs.Common.{map}
use Rattle.layer_names.proofs.Added.{Keying}
use Rattle.layer_names.proofs.adding.add_keys.Given as goal

-- the keys of the names so far
abbrev pub invariant-loop-row : goal.invariant-loop-row
invariant-loop-row g l = Keying l.shared (map g.T.HasName.name l.rows) l.initial.keys.items l.keys.items l.row-index
