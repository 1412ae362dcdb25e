-- The children of a directory are the paths one name below it: child_entry says so for one tree. As two trees of one run have the same
-- entries, so have their children (same_children).
use Rattle.std.proofs.Common.{◌≡◌, ◌∙◌, sym, ℕ, List, [], ◌∷◌, ◌++◌, refl, Option, Some, None}
use Rattle.stack_model.specs.Stack.{Path}
use Rattle.layer_paths.specs.Rows.{Subtree, spread, named, at_path}
use Rattle.layer_paths.proofs.Spread.{through, at_spread}
use Rattle.layer_paths.specs.declared.entries.Entry.{Entry}
use Rattle.layer_paths.specs.Trees.{TreeRows, entry_at, AreChildren, IsTreeOf}
use Rattle.layer_tree.specs.Merging.{value_of}
use Rattle.layer_tree.proofs.Agreeing.{same_entries}

module _ (t : TreeRows) (path : Path) (children : List (Subtree Entry)) (are : AreChildren t path children) where
  -- a name is a child's exactly if something is shown one name below
  pub child_entry : (name : List ℕ) → value_of (named name children) ≡ entry_at t (path ++ name ∷ [])
  child_entry name = sym (are.at name [] ∙ at_spread children are.forest.names name [] ∙ here (named name children))
    where
      here : (o : Option (Subtree Entry)) → through o [] ≡ value_of o
      here None = refl
      here (Some s) = refl

-- children of one path in two trees of one run have the same entries below them
pub same_children : (first : ℕ) (layers : List (List ℕ)) (s t : TreeRows) → IsTreeOf first layers s
    → IsTreeOf first layers t → (path : Path) (cs ds : List (Subtree Entry)) → AreChildren s path cs
    → AreChildren t path ds → (name : List ℕ) (q : Path)
    → at_path (spread cs) (name ∷ q) ≡ at_path (spread ds) (name ∷ q)
same_children first layers s t is it path cs ds c d name q = sym (c.at name q) ∙ same_entries first layers s t is it (path ++ name ∷ q)
    ∙ d.at name q
