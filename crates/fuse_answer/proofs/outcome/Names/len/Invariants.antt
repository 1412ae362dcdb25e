use Rattle.std.proofs.Common.{◌≡◌, length}
use Rattle.fuse_answer.specs.Names.{said_before}
use Rattle.fuse_answer.proofs.outcome.Names.len.Given as goal

-- the bytes of the names before the position
abbrev pub invariant-loop-position : goal.invariant-loop-position
invariant-loop-position l = l.len ≡ length (said_before l.self l.position)
