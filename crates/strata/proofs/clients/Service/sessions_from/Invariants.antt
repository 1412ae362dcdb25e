use Rattle.fuse_answer.specs.Puts.{sourced_by}
use Rattle.strata.proofs.InTurn.{AreSoFar, HaveCome}
use Rattle.strata.proofs.clients.Service.sessions_from.Given as goal

-- as many sessions were served, each of a client of its own, and the status is that of the first
-- that stopped
abbrev pub invariant-loop-number : goal.invariant-loop-number
invariant-loop-number g l =
    AreSoFar g.row.A.Denot l.fn.self.first (sourced_by g.D.Contents.source l.fn.self.served) l.number l.status
    × HaveCome l.number (g.C.Clients.counts l.fn.clients) (g.C.Clients.counts l.clients)
