use Rattle.std.proofs.Common.{◌<◌, ℕ, slice_index}
use Rattle.layer_names.specs.Noted.{IsNoted, Keeps}
use Rattle.layer_names.proofs.key_filter.KeyFilter.note_all.Given as goal

-- the keys so far are noted, and what was noted before stays so
abbrev pub invariant-loop-key : goal.invariant-loop-key
invariant-loop-key g l = ((k : ℕ) → k < l.key-index → IsNoted l.self l.directory (slice_index l.keys k)) × Keeps l.initial.self l.self
