-- Any thread may give a block back, if any may give it back to the inner allocator: `frees`, which is the inner allocator's own right, as
-- each block that is handed out is one of its blocks.
use mir.Syntax.{Dict}
use denote.RattleType.{RattleType}
use denote.Param.Send.{Frees}
use Rattle.std.specs.declared.alloc.Allocator.{Ghosts}
use Rattle.test_kit.specs.contracts.refusing.RefusingAllocator.TheImpl.{ghosts}

-- if any thread may give back to the inner allocator, any may give back here
pub frees : (A : RattleType) (g : Ghosts A.Denot) (d e : Dict) → Frees g g.dealloc_token
    → Frees (ghosts A g d e) (ghosts A g d e).dealloc_token
frees A g d e inner = record { frees = λ r τ p. inner.frees r.inner τ p }
