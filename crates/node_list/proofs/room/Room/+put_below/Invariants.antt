use Rattle.std.proofs.Common.{◌≡◌, ◌-◌, length, take}
use Rattle.node_list.specs.declared.path_text.TheConstants.{LONGEST}
use Rattle.node_list.specs.Walks.{passage}
use Rattle.node_list.proofs.Turns.{PutsSoFar, pieces}
use Rattle.node_list.proofs.room.Room.+put_below.Given as goal

-- the text of a child is longer
abbrev pub decreases-put_below : goal.decreases-put_below
decreases-put_below g l = LONGEST - length l.path.now

-- the text is that of the directory, and the children so far were put, each with what is below it
abbrev pub invariant-loop-row : goal.invariant-loop-row
invariant-loop-row g l = record {
  back : l.path ≡ l.fn.path;
  put : PutsSoFar l.table l.number l.fn.path (passage (g.K.Sink.state l.fn.sink) l.fn.self.waiting.items)
      (passage (g.K.Sink.state l.sink) l.self.waiting.items) (pieces l.table (take l.row-index l.row-items));
}
