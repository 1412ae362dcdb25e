-- A counter that one thread draws from, and the history of its draws.
use Rattle.std.specs.Prelude.{ℕ, List, Option, Some, None, map, if◌then◌else◌, nat_lt}
use Rattle.std.specs.List.{range_with_len}

-- a draw: its position, counted from 0, and what it answered
pub record Drawn : Type 0 where
  pub position : ℕ
  pub answer : Option ℕ

-- a draw returns its position if that is a number below the total, and from the total on nothing
abbrev pub draw_answer : ℕ → ℕ → Option ℕ
draw_answer total position = if nat_lt position total then Some position else None

-- the draw at a position
abbrev pub drawn_at : ℕ → ℕ → Drawn
drawn_at total position = record { position = position; answer = draw_answer total position }

-- the legal history of n draws: the positions 0 to n - 1 in order, each with its answer
abbrev pub history : ℕ → ℕ → List Drawn
history total n = map (drawn_at total) (range_with_len 0 n)
