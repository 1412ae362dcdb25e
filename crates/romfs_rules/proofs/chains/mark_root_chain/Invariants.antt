use Rattle.std.proofs.Common.{◌<◌, ◌^◌}
use Rattle.romfs_sets.proofs.Marks.{unmarked}
use Rattle.romfs_rules.proofs.RootWalk.{Walked}
use Rattle.romfs_rules.proofs.chains.mark_root_chain.Given as goal

-- the walk along the root's chain is here, at a word, with these marks
abbrev pub invariant-loop-marks : goal.invariant-loop-marks
invariant-loop-marks g l = record { walked : Walked l.volume.bytes.now l.marks l.at; narrow : l.at < 2 ^ 32 }

-- how many slots have no mark
abbrev pub decreases-loop-marks : goal.decreases-loop-marks
decreases-loop-marks g l = unmarked l.marks
