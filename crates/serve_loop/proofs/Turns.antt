-- A run between its devices, turn by turn. `IsBefore` holds before each turn, `IsAfter` once a pull
-- gave bytes (`feeds`), and if these are answered the next turn may begin (`goes_on`).
use Rattle.std.proofs.Common.{◌≡◌, ◌∙◌, ap, ℕ, ◌+◌, ◌<◌, List, [], ◌++◌, Ok, arith}
use Rattle.std.specs.Io.KnownBytes.{Appends, Consumes}
use Rattle.std.proofs.KnownBytes.{Appends-nil, Appends-trans, Consumes-nil, Consumes-trans}
use Rattle.fuse_wire.specs.Stream.{IsOpen}
use Rattle.devices.specs.States.{Devices, SinkState, SourceState, devices}
use Rattle.serve_loop.specs.Buffers.{Fills}
use Rattle.serve_loop.specs.Rounds.{Answering}
use Rattle.serve_loop.specs.Serving.{AreReady, Trace, trace}
use Rattle.serve_loop.specs.Steps.{ServingState, IsSmall, Proceeds}
use Rattle.serve_loop.proofs.Traces.{IsFed, IsLow, IsRunning, start}
use Rattle.serve_loop.proofs.Runs.{fed, runs_first, small_fed, went_round}

-- the trace of a call between these devices
abbrev pub so_far : Devices → Devices → List ℕ → List ℕ → Trace
so_far old now got put = trace got put old.source.counts now.source.counts old.sink.counts now.sink.counts

module _ (by : Answering) (nodes : ℕ) (old : Devices) where
  -- before a turn, everything complete was answered
  pub record IsBefore (turn : ℕ) (now : Devices) (v : ServingState) : Type 0 where
    pub got : List ℕ
    pub put : List ℕ
    pub messages : List (List ℕ)
    pub took : Consumes old.source.left now.source.left got
    pub held : Appends old.sink.held now.sink.held put
    pub runs : IsRunning by nodes turn (so_far old now got put) v messages

  -- after a pull that gave bytes
  pub record IsAfter (turn : ℕ) (now : Devices) (v : ServingState) : Type 0 where
    pub got : List ℕ
    pub put : List ℕ
    pub messages : List (List ℕ)
    pub took : Consumes old.source.left now.source.left got
    pub held : Appends old.sink.held now.sink.held put
    pub fed : IsFed by nodes turn (so_far old now got put) v messages

  -- no count overflows in a call that has this many turns
  pub low : (turns : ℕ) (now : Devices) (got put : List ℕ) → AreReady turns old → IsLow (so_far old now got put)
  low turns now got put ready = record { pulls = ready.pulls; ends = ready.ends; failures = ready.source_failures }

  -- before the first turn
  unfoldable pub first_turn : (v : ServingState) → v ≡ start by.first nodes [] → IsBefore 0 old v
  first_turn v is = record {
    got = [];
    put = [];
    messages = [];
    took = Consumes-nil _;
    held = Appends-nil _;
    runs = runs_first by nodes _ _ v is;
  }

  module _ (turn turns : ℕ) (now : Devices) (v : ServingState) (b : IsBefore turn now v) where
    -- the pull of a turn
    module _ (source : SourceState) (kept rest : List ℕ) (ready : AreReady turns old) (h : turn < turns) (same : kept ≡ v.rest) where
      -- it gave bytes
      unfoldable pub feeds : (n : ℕ) → Fills now.source source kept rest (Ok n) → (n ≡ 0 → ⊥)
          → IsAfter turn (devices source now.sink) (record v { rest = rest })
      feeds n (x, more, pull) some = record {
        got = b.got ++ x;
        put = b.put;
        messages = b.messages;
        took = Consumes-trans _ _ _ _ _ b.took more;
        held = b.held;
        fed = fed by nodes turn _ v b.messages b.runs _ x n pull.counts pull.is.0 some (low turns now b.got b.put ready)
            (let few = ready.few in omega arith) rest
            pull.is.1 (pull.behind ∙ ap (λ r. r ++ x) same);
      }

      -- and the counts stay small
      pub feeds_small : IsAfter turn (devices source now.sink) (record v { rest = rest }) → IsSmall nodes v
          → IsSmall nodes (record v { rest = rest })
      feeds_small f small = small_fed by nodes turn _ v rest f.messages f.fed small (let few = ready.few in omega arith)

  -- the complete messages in the bytes that arrived
  module _ (turn turns : ℕ) (now : Devices) (v : ServingState) (f : IsAfter turn now v) where
    -- it was answered
    module _ (w : ServingState) (sink : SinkState) (p : Proceeds by v w now.sink sink) where
      -- and what is left is good
      unfoldable pub goes_on : IsOpen w.rest → IsBefore (turn + 1) (devices now.source sink) w
      goes_on good = record {
        got = f.got;
        put = f.put ++ p.put;
        messages = f.messages ++ p.messages;
        took = f.took;
        held = Appends-trans _ _ _ _ _ f.held p.held;
        runs = went_round by nodes turn _ v f.messages f.fed w p.messages _ p.put p.goes p.flushed good;
      }
