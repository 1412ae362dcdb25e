-- The walk down a tree along a path. Wherever it is, the remaining names lead to what the whole path leads to from the top (`IsDown`);
-- `descend` says how to go down to the child of the next name, or to find none.
use Rattle.std.proofs.Common.{◌≡◌, ◌∙◌, sym, ap, ℕ, suc, ◌+◌, ◌<◌, List, [], ◌∷◌, ◌++◌, Option, Bor, map, drop, get_or, length, add-one}
use Rattle.std.proofs.Math.Seq.{drop-cons}
use Rattle.std.proofs.lemmas.List.{append-nil}
use Rattle.layer_paths.specs.Rows.{Subtree, spread, whole, named, NamesRise, at_path, IsUnder}
use Rattle.layer_paths.proofs.Spread.{through, at_spread}

-- the walk is at the branch `here`, and the names from the i-th on are left
pub record IsDown {T : Type 0} (rows : List (List (List ℕ) × T)) (path : List (Bor (List ℕ))) (i : ℕ) (here : Subtree T) : Type 0 where
  pub at : (q : List (List ℕ)) → at_path rows (map (λ n. n.now) path ++ q) ≡ at_path (whole here) (map (λ n. n.now) (drop i path) ++ q)

module _ {T : Type 0} where
  -- below a branch a path leads to what the child of its first name has at the rest
  pub step : (s : Subtree T) (ss : List (Subtree T)) (o : Option (Subtree T)) (n : List ℕ) (rest : List (List ℕ))
      → s.below ≡ spread ss → NamesRise ss → named n ss ≡ o → at_path (whole s) (n ∷ rest) ≡ through o rest
  step s ss o n rest e r f = rw (e, at_spread ss r n rest, f)

  -- the path leads to what the child of its i-th name has at the names after that; without a child, nowhere
  pub descend : (rows : List (List (List ℕ) × T)) (path : List (Bor (List ℕ))) (i : ℕ) (s : Subtree T)
      (ss : List (Subtree T)) (o : Option (Subtree T)) (d : Bor (List ℕ))
      → i < length path → IsDown rows path i s → s.below ≡ spread ss → NamesRise ss
      → named (get_or path i d).now ss ≡ o → (q : List (List ℕ))
      → at_path rows (map (λ n. n.now) path ++ q) ≡ through o (map (λ n. n.now) (drop (i + 1) path) ++ q)
  descend rows path i s ss o d l w e r f q =
      w.at q ∙ rw (add-one, drop-cons path i d l) (step s ss o (get_or path i d).now (map (λ n. n.now) (drop (suc i) path) ++ q) e r f)

  -- what the rows have at a path is the value of what is found there
  pub under_here : (rows : List (List (List ℕ) × T)) (path : List (List ℕ)) (under : List (List (List ℕ) × T))
      → IsUnder rows path under → at_path rows path ≡ at_path under []
  under_here rows path under u = ap (at_path rows) (sym (append-nil path)) ∙ u.at []
