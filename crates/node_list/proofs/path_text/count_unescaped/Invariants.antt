use Rattle.node_list.proofs.Runs.{IsRun}
use Rattle.node_list.proofs.path_text.count_unescaped.Given as goal

-- the bytes so far need no escape
abbrev pub invariant-loop-at : goal.invariant-loop-at
invariant-loop-at l = IsRun l.name l.at
