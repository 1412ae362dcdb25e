use Rattle.std.proofs.Common.{◌-◌, ◌≤◌, length}
use Rattle.romfs_rules.proofs.Closure.{Seeded}
use Rattle.romfs_rules.proofs.chains.seeds.Given as goal

-- the words are the starts of the slots before the next one
abbrev pub invariant-loop-slot : goal.invariant-loop-slot
invariant-loop-slot g l = record { low : l.from ≤ length l.root_chain; seeded : Seeded l.volume.bytes.now l.root_chain l.from l.todo.items }

-- how many slots are left
abbrev pub decreases-loop-slot : goal.decreases-loop-slot
decreases-loop-slot g l = length l.root_chain - l.from
