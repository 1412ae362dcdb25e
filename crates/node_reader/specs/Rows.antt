-- Rows of directories, each a number and a name.
use Rattle.std.specs.Prelude.{ℕ, List, map, Option, find}
use Rattle.std.specs.Option.{option_map}
use Rattle.stack_model.specs.Numbers.{same_name}

-- a child of a directory: its number and its name
pub record Line : Type 0 where
  pub number : ℕ
  pub name : List ℕ

-- the names of rows
abbrev pub names : List Line → List (List ℕ)
names lines = map (λ line. line.name) lines

-- the row with this name
abbrev pub line_named : List ℕ → List Line → Option Line
line_named name lines = find (λ line. same_name name line.name) lines

-- its number
abbrev pub number_named : List ℕ → List Line → Option ℕ
number_named name lines = option_map (λ line. line.number) (line_named name lines)
