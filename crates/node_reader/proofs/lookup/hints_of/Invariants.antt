use Rattle.std.proofs.Common.{◌+◌, ◌*◌, ◌≤◌, length}
use Rattle.node_reader.specs.Held.{AreNotedUpTo}
use Rattle.node_reader.proofs.lookup.hints_of.Given as goal

-- the keys of the directories so far are noted, and what notes them is no larger than it was made
abbrev pub invariant-loop-at : goal.invariant-loop-at
invariant-loop-at g l = record {
  noted : AreNotedUpTo l.nodes l.directories l.filter l.at;
  guesses : l.guesses ≤ 4 * length l.directories.rows + 17;
  filter : length l.filter ≤ 8 * length l.directories.rows;
}
