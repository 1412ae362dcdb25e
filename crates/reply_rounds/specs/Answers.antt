-- Answers over the table of a stack.
use Rattle.stack_model.specs.Listing.{Stacked}
use Rattle.reply_model.specs.declared.session.Session.{Session}
use Rattle.reply_model.specs.Replies.{reply}
use Rattle.reply_model.specs.Moves.{moves}
use Rattle.reply_model.specs.Readings.{Sourced, in_memory, reading_of}
use Rattle.serve_loop.specs.Rounds.{Answering}

-- requests are replied to, and move lookups, by the definitions of FUSE over the stack's layers and
-- shown paths, from the session on in which a stream begins; data are read from the sources of
-- layers
abbrev pub answering_from : Session → Sourced → Answering
answering_from first by = record {
  first = first;
  reply = reply by.stack;
  moved = moves by.stack;
  reading = λ q. reading_of by q;
}

-- if all layers are held no data are read
abbrev pub answering : Session → Stacked → Answering
answering first stack = answering_from first (in_memory stack)
