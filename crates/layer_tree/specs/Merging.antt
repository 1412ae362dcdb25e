-- Terms of the laws of trees.
use Rattle.std.specs.Prelude.{◌≡◌, ℕ, List, [], ◌∷◌, ◌++◌, Option, Some, None, codes}
use Rattle.stack_model.specs.Stack.{Path, IsIn, HasOther}
use Rattle.layer_paths.specs.Rows.{Subtree}
use Rattle.layer_paths.specs.declared.entries.Entry.{Entry}

-- all along the path the layer has no marker for the next name, no opaque marker, and no entry that
-- is not a directory
pub record IsUnremoved (a : List ℕ) (path : Path) : Type 0 where
  pub nowhere : (q : Path) (y : List ℕ) (rest : Path) → path ≡ q ++ y ∷ rest
      → (¬ IsIn a (q ++ (codes ".wh." ++ y) ∷ [])) × (¬ IsIn a (q ++ codes ".wh..wh..opq" ∷ []))
      × (¬ HasOther a (q ++ y ∷ []))

-- the entry of a found child
abbrev pub value_of : Option (Subtree Entry) → Option Entry
value_of None = None
value_of (Some child) = Some child.value
