use Rattle.std.proofs.Common.{◌≡◌, ◌++◌, take}
use Rattle.node_list.specs.Lines.{name_text}
use Rattle.node_list.proofs.path_text.PathText.go_down.Given as goal

-- the bytes so far follow the run
abbrev pub invariant-loop-byte : goal.invariant-loop-byte
invariant-loop-byte g l = l.self ≡ l.initial.self ++ name_text (take l.byte-index l.others)
