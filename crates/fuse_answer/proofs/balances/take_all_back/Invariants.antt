use Rattle.fuse_wire.specs.Reads.{items_of}
use Rattle.fuse_answer.proofs.Moving.{IsTaken}
use Rattle.fuse_answer.proofs.balances.take_all_back.Given as goal

-- this many of the items are taken back, and the rest is left
abbrev pub invariant-loop-taken : goal.invariant-loop-taken
invariant-loop-taken g l = IsTaken l.table (items_of l.fn.items) (items_of l.rest) l._taken l.initial.balances l.balances
