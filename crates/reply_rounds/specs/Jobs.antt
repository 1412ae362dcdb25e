-- The result of a round of jobs.
use Rattle.std.specs.Prelude.{◌≡◌, ℕ, List, [], ◌∷◌, ◌++◌}
use Rattle.std.specs.List.{flat_map}
use Rattle.fuse_wire.specs.declared.request.Request.{Request}
use Rattle.fuse_wire.specs.Reads.{asked_of}
use Rattle.stack_model.specs.Listing.{Stacked}
use Rattle.reply_model.specs.declared.moves.Move.{Move}
use Rattle.reply_model.specs.declared.session.Session.{Session}
use Rattle.reply_model.specs.Moves.{moves}
use Rattle.reply_model.specs.Readings.{Sourced, IsReplyOver}
use Rattle.reply_rounds.specs.declared.pieces.Rounded.{Rounded}
use Rattle.reply_rounds.specs.Sums.{AreSums}

-- a request, with the session before it
abbrev pub Job : Type 0
Job = Session × Request

-- these bytes are a possible reply to a job
abbrev pub IsReplyTo : Sourced → Job → List ℕ → Type 0
IsReplyTo by job bytes = IsReplyOver by job.0 (asked_of job.1) bytes

-- these bytes are possible replies to jobs one after another
abbrev pub AreReplied : Sourced → List Job → List ℕ → Type 0
AreReplied by [] bytes = bytes ≡ []
AreReplied by (job ∷ jobs) bytes =
    (one : List ℕ) × (rest : List ℕ) × (bytes ≡ one ++ rest) × IsReplyTo by job one
    × AreReplied by jobs rest

-- the lookups that a job moves
abbrev pub moved_by : Stacked → Job → List Move
moved_by stack job = moves stack job.0 (asked_of job.1)

-- the replies to jobs one after another, and the sums of their moves by node
pub record IsRounded {A : Type 0} (by : Sourced) (jobs : List Job)
    (rounded : Rounded A) : Type 0 where
  pub replies : AreReplied by jobs rounded.bytes.items
  pub sums : AreSums (flat_map (moved_by by.stack) jobs) rounded.moves.items
