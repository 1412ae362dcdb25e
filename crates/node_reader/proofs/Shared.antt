-- A table may be shared by threads, if its allocator may.
use denote.RattleType.{RattleType}
use denote.Param.Send.{IsSync, sendable}
use Rattle.std.specs.declared.alloc.Allocator.{Ghosts}
use Rattle.std.proofs.Crossing as crossing
use Rattle.std.proofs.CrossingOver as over
use Rattle.node_reader.specs.contracts.table.Table.{the_row}

pub tables_are_shared : (A : RattleType) (g : Ghosts A.Denot) → IsSync A → IsSync (the_row A g)
tables_are_shared A g s = search (sendable, crossing.crosses, over.crosses) depth 60 fits 5000
