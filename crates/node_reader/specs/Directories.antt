-- What is kept about directories.
use Rattle.std.specs.Prelude.{ℕ, List}
use Rattle.node_reader.specs.declared.directory.Directory.{Directory}
use Rattle.node_reader.specs.Rows.{Line}

-- directories in the order of their numbers, the rows of all of them, and a key beside each row
pub record HeldDirectories : Type 0 where
  pub all : List Directory
  pub rows : List Line
  pub keys : List ℕ
