-- What a walk over a table prints, and what it requires.
use Rattle.std.specs.Prelude.{◌≡◌, ℕ, List, [], ◌∷◌, ◌++◌, flat_map, Result, OnOk, OnErr}
use Rattle.std.specs.Option.{option_map_or}
use Rattle.std.specs.Io.KnownBytes.{Appends}
use Rattle.devices.specs.States.{SinkState}
use Rattle.devices.specs.Pushing.{Settles, GainsFront}
use Rattle.stack_model.specs.Stack.{Path}
use Rattle.stack_model.specs.Listing.{Entry, IsAmong}
use Rattle.stack_model.specs.Numbers.{place, number, node_of}
use Rattle.stack_model.specs.Listing.{Stacked}
use Rattle.node_reader.specs.Rows.{Line}
use Rattle.node_list.specs.Lines.{names_text, path_text, line_with, line}
use Rattle.node_list.specs.Below.{below, AreTree, AreShort}

-- what a sink holds, and the bytes on their way to it
pub record Passage : Type 0 where
  pub sink : SinkState
  pub waiting : List ℕ

-- the same, from both
abbrev pub passage : SinkState → List ℕ → Passage
passage sink waiting = record { sink = sink; waiting = waiting }

-- these bytes follow those on their way, and the sink gained a prefix of both
pub record Gains (old new : Passage) (bytes : List ℕ) : Type 0 where
  pub put : List ℕ
  pub gained : Appends old.sink.held new.sink.held put
  pub left : old.waiting ++ bytes ≡ put ++ new.waiting

-- the sink gained at most a prefix of what was on its way and of these bytes
pub record Loses (old new : Passage) (bytes : List ℕ) : Type 0 where
  pub gained : GainsFront (old.waiting ++ bytes) old.sink.held new.sink.held

-- a call put these bytes after those on their way, or the sink failed once more and gained at most
-- a prefix of them; if it succeeds no more bytes wait for a flush
pub record Puts {X E : Type 0} (result : Result X E) (old new : Passage) (bytes : List ℕ)
    : Type 0 where
  pub gained : OnOk result (Gains old new bytes)
  pub lost : OnErr result (Loses old new bytes)
  pub counted : Settles result old.sink new.sink

-- the line of a number with this text of a path
abbrev pub line_as : Stacked → ℕ → List ℕ → List ℕ
line_as stack n text = option_map_or (λ p. line_with stack p text) (node_of stack.entries n) []

-- the line of a number at a path
abbrev pub line_at : Stacked → ℕ → Path → List ℕ
line_at stack n path = line_as stack n (path_text path)

-- the lines of all paths below a path
abbrev pub lines_below : Stacked → Path → List ℕ
lines_below stack path = flat_map (line stack) (below stack.entries path)

-- the line of a child of the directory at a path, and those of everything below it
abbrev pub piece_at : Stacked → Path → Line → List ℕ
piece_at stack top row =
    line_at stack row.number (top ++ row.name ∷ []) ++ lines_below stack (top ++ row.name ∷ [])

-- the shown paths make a tree, and the number and the text are those of this one of them
pub record IsVisited (stack : Stacked) (n : ℕ) (text : List ℕ) (path : Path) : Type 0 where
  pub tree : AreTree stack.layers stack.entries
  pub short : AreShort stack.entries
  pub entry : Entry
  pub among : IsAmong entry stack.entries
  pub path_is : entry.path ≡ path
  pub number_is : n ≡ number stack.entries (place entry)
  pub text_is : text ≡ names_text path

-- a walk is at this number and this text
abbrev pub IsOnWay : Stacked → ℕ → List ℕ → Type 0
IsOnWay stack n text = (path : Path) × IsVisited stack n text path

-- a call put the lines of all paths below the one that is visited at this number and this text, or
-- the sink failed once more and gained at most a prefix of them
pub record PutsBelow {X E : Type 0} (stack : Stacked) (n : ℕ) (text : List ℕ) (result : Result X E)
    (old new : Passage) : Type 0 where
  pub gained : (path : Path) → IsVisited stack n text path
      → OnOk result (Gains old new (lines_below stack path))
  pub lost : (path : Path) → IsVisited stack n text path
      → OnErr result (Loses old new (lines_below stack path))
  pub counted : Settles result old.sink new.sink
