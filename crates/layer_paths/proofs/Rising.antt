-- The rows of a branch rise if its names rise and the rows of each of its branches do (`branch_rises`): rows that begin with one name stay
-- in order, and come before those that begin with a later name (`joined`).
use Rattle.std.proofs.Common.{◌≡◌, ℕ, List, [], ◌∷◌, ◌++◌, refl}
use Rattle.std.specs.declared.cmp.Ordering.TheVariants.{Less}
use Rattle.std.specs.Cmp.Lexicographic.{slice_cmp}
use Rattle.std.specs.List.{AllByRecursion}
use Rattle.layer_paths.specs.Rows.{Subtree, name_cmp, prefixed, spread, NamesRise, PathsRise, whole, IsRising, IsForest}
use Rattle.layer_paths.proofs.Names.{itself}

abbrev Above : {T : Type 0} → List (List ℕ) → List (List (List ℕ) × T) → Type 0
Above p xs = AllByRecursion (λ y. slice_cmp name_cmp p y.0 ≡ Less) xs

module _ {T : Type 0} where
  above_append : (p : List (List ℕ)) (xs ys : List (List (List ℕ) × T)) → Above p xs → Above p ys → Above p (xs ++ ys)
  above_append p [] ys a b = b
  above_append p (x ∷ xs) ys a b = (a.0, above_append p xs ys a.1 b)

  above_prefixed : (n : List ℕ) (p : List (List ℕ)) (xs : List (List (List ℕ) × T)) → Above p xs → Above (n ∷ p) (prefixed n xs)
  above_prefixed n p [] a = tt
  above_prefixed n p (x ∷ xs) a = (rw (itself n) a.0, above_prefixed n p xs a.1)

  above_other : (n m : List ℕ) (p : List (List ℕ)) (xs : List (List (List ℕ) × T)) → name_cmp n m ≡ Less → Above (n ∷ p) (prefixed m xs)
  above_other n m p [] l = tt
  above_other n m p (x ∷ xs) l = (rw l, above_other n m p xs l)

  above_spread : (n : List ℕ) (p : List (List ℕ)) (ss : List (Subtree T)) → AllByRecursion (λ t. name_cmp n t.name ≡ Less) ss
      → Above (n ∷ p) (spread ss)
  above_spread n p [] a = tt
  above_spread n p (s ∷ ss) a = (
    rw a.0,
    above_append (n ∷ p) (prefixed s.name s.below) (spread ss)
        (above_other n s.name p s.below a.0) (above_spread n p ss a.1),
  )

  joined : (n : List ℕ) (xs : List (List (List ℕ) × T)) (ss : List (Subtree T)) → PathsRise xs
      → AllByRecursion (λ t. name_cmp n t.name ≡ Less) ss → PathsRise (spread ss)
      → PathsRise (prefixed n xs ++ spread ss)
  joined n [] ss r a q = q
  joined n (x ∷ xs) ss r a q = (
    above_append (n ∷ x.0) (prefixed n xs) (spread ss)
        (above_prefixed n x.0 xs r.0) (above_spread n x.0 ss a),
    joined n xs ss r.1 a q,
  )

  -- the rows of branches rise, if their names do and the rows of each
  pub spread_rises : (ss : List (Subtree T)) → NamesRise ss → AllByRecursion IsRising ss → PathsRise (spread ss)
  spread_rises [] r e = tt
  spread_rises (s ∷ ss) r e =
      let all : PathsRise (whole s) = e.0.rises in (
        above_append (s.name ∷ []) (prefixed s.name s.below) (spread ss)
            (above_prefixed s.name [] s.below all.0) (above_spread s.name [] ss r.0),
        joined s.name s.below ss
            all.1 r.0 (spread_rises ss r.1 e.1),
      )

  above_root : (ss : List (Subtree T)) → Above [] (spread ss)
  above_root [] = tt
  above_root (s ∷ ss) = (refl, above_append [] (prefixed s.name s.below) (spread ss) (root s.name s.below) (above_root ss))
    where
      root : (n : List ℕ) (xs : List (List (List ℕ) × T)) → Above [] (prefixed n xs)
      root n [] = tt
      root n (x ∷ xs) = (refl, root n xs)

  -- a branch over a forest has rising rows, whatever its name and value
  pub branch_rises : (n : List ℕ) (v : T) (ss : List (Subtree T)) → IsForest ss
      → IsRising (record { name = n; value = v; below = spread ss })
  branch_rises n v ss f = record { rises = (above_root ss, spread_rises ss f.names f.each) }
