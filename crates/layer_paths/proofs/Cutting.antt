-- The walk down the marks along a path: a path is cut by the value at a branch, or because the child of its next name cuts the rest
-- (`cut_step`). So the walk ends at a value that cuts (`cut_here`), continues at the child (`cut_deeper`), or finds none (`cut_nowhere`).
use Rattle.std.proofs.Common.{◌≡◌, ◌∙◌, ap, ℕ, ◌+◌, ◌<◌, ◌≤◌, List, [], ◌∷◌, refl, Option, Some, None, Bor, map, drop, get_or, length, add-one, Bool, true, false, ◌||◌, ◌&&◌, not}
use Rattle.std.specs.Prelude.{nat_eq, option_map}
use Rattle.std.specs.List.{starts_with}
use Rattle.std.proofs.Math.Seq.{drop-cons}
use Rattle.std.proofs.lemmas.List.{drop_all}
use Rattle.layer_paths.specs.Rows.{Subtree, spread, whole, named, NamesRise, at_path}
use Rattle.layer_paths.proofs.Under.{step}
use Rattle.layer_paths.proofs.Spread.{through, at_spread}
use Rattle.stack_model.specs.Stack.{marker}
use Rattle.layer_paths.specs.declared.entries.Mark.{Mark}
use Rattle.layer_paths.specs.Marks.{cuts_itself, cuts_below, cut_by, is_plain}

-- the names before the i-th are plain
pub record IsPlainFrom (path : List (Bor (List ℕ))) (i : ℕ) : Type 0 where
  pub same : is_plain (map (λ n. n.now) path) ≡ is_plain (map (λ n. n.now) (drop i path))

-- if the names before the i-th are plain, the path is if the i-th is no marker's and the rest is
-- plain
pub plain_step : (path : List (Bor (List ℕ))) (i : ℕ) (d : Bor (List ℕ)) (b : Bool) → i < length path
    → IsPlainFrom path i → b ≡ starts_with nat_eq (get_or path i d).now marker
    → is_plain (map (λ n. n.now) path) ≡ (not b && is_plain (map (λ n. n.now) (drop (i + 1) path)))
plain_step path i d b l w e = w.same ∙ rw (add-one, drop-cons path i d l, e) refl

-- if all names were looked at and are plain, the path is
pub plain_end : (path : List (Bor (List ℕ))) (i : ℕ) → length path ≤ i → IsPlainFrom path i → is_plain (map (λ n. n.now) path) ≡ true
plain_end path i l w = w.same ∙ ap (λ p. is_plain (map (λ n. n.now) p)) (drop_all i path l)

-- marks that are the same at each path cut the same
pub cut_same : (f g : List (List ℕ) → Option Mark) → ((q : List (List ℕ)) → f q ≡ g q) → (path : List (List ℕ))
    → cut_by f path ≡ cut_by g path
cut_same f g e [] = ap cuts_itself (e [])
cut_same f g e (n ∷ path) = rw (e [], cut_same (λ q. f (n ∷ q)) (λ q. g (n ∷ q)) (λ q. e (n ∷ q)) path) refl

-- if there are no marks, no path is cut
pub nothing_cut : (path : List (List ℕ)) → cut_by (λ q. None) path ≡ false
nothing_cut [] = refl
nothing_cut (n ∷ path) = nothing_cut path

-- what the marks of a found branch cut
abbrev pub cut_through : Option (Subtree Mark) → List (List ℕ) → Bool
cut_through None path = false
cut_through (Some s) path = cut_by (at_path (whole s)) path

-- through an optional branch, marks cut as the branch does; nothing if none was found
pub by_through : (o : Option (Subtree Mark)) (path : List (List ℕ)) → cut_by (through o) path ≡ cut_through o path
by_through None path = nothing_cut path
by_through (Some s) path = refl

-- below a name, the marks of a directory cut what its branch of that name cuts
pub by_name : (ms : List (Subtree Mark)) → NamesRise ms → (n : List ℕ) (path : List (List ℕ))
    → cut_by (λ q. at_path (spread ms) (n ∷ q)) path ≡ cut_through (named n ms) path
by_name ms r n path = cut_same (λ q. at_path (spread ms) (n ∷ q)) (through (named n ms)) (λ q. at_spread ms r n q) path
    ∙ by_through (named n ms) path

-- a mark, taken as a value that removes, is its own mark
pub themselves : (o : Option Mark) → option_map (λ m. m) o ≡ o
themselves None = refl
themselves (Some m) = refl

-- marks, taken as values that remove, cut what they cut as marks
pub cut_by_themselves : (rows : List (List (List ℕ) × Mark)) (path : List (List ℕ))
    → cut_by (λ q. option_map (λ m. m) (at_path rows q)) path ≡ cut_by (at_path rows) path
cut_by_themselves rows path = cut_same (λ q. option_map (λ m. m) (at_path rows q)) (at_path rows) (λ q. themselves (at_path rows q)) path

module _ {T : Type 0} (m : T → Mark) where
  -- what a branch cuts by what its values remove
  abbrev pub cut_in : Subtree T → List (List ℕ) → Bool
  cut_in s path = cut_by (λ q. option_map m (at_path (whole s) q)) path

  -- what the branch that was found cuts by what its values remove
  abbrev pub cut_in_found : Option (Subtree T) → List (List ℕ) → Bool
  cut_in_found o path = cut_by (λ q. option_map m (through o q)) path

  -- a path is cut by the value above all of it, or by the branch of its first name
  cut_step : (s : Subtree T) (ss : List (Subtree T)) (o : Option (Subtree T)) (n : List ℕ) (path : List (List ℕ))
      → s.below ≡ spread ss → NamesRise ss → named n ss ≡ o
      → cut_in s (n ∷ path) ≡ (cuts_below (Some (m s.value)) || cut_in_found o path)
  cut_step s ss o n path e r f = ap (λ b. cuts_below (Some (m s.value)) || b)
      (cut_same (λ q. option_map m (at_path (whole s) (n ∷ q))) (λ q. option_map m (through o q))
      (λ q. ap (λ x. option_map m x) (step s ss o n q e r f)) path)

  -- the walk is at `here`, with no cut above it, and the names from the i-th on are left
  pub record IsCutFrom (tree : Subtree T) (path : List (Bor (List ℕ))) (i : ℕ) (here : Subtree T) : Type 0 where
    pub same : cut_in tree (map (λ n. n.now) path) ≡ cut_in here (map (λ n. n.now) (drop i path))

  module _ (tree : Subtree T) (path : List (Bor (List ℕ))) (i : ℕ) (s : Subtree T) (d : Bor (List ℕ))
      (l : i < length path) (w : IsCutFrom tree path i s) where
    at_name : cut_in tree (map (λ n. n.now) path) ≡ cut_in s ((get_or path i d).now ∷ map (λ n. n.now) (drop (i + 1) path))
    at_name = w.same ∙ rw (add-one, drop-cons path i d l) refl

    -- if the value at the branch cuts what is below it, the path is cut
    pub cut_here : cuts_below (Some (m s.value)) ≡ true → cut_in tree (map (λ n. n.now) path) ≡ true
    cut_here e = at_name ∙ rw e refl

    -- if the value cuts nothing below it, the path is cut as the child of the next name cuts the
    -- rest
    pub cut_deeper : (ss : List (Subtree T)) (o : Option (Subtree T)) → s.below ≡ spread ss → NamesRise ss
        → named (get_or path i d).now ss ≡ o → cuts_below (Some (m s.value)) ≡ false
        → cut_in tree (map (λ n. n.now) path)
        ≡ cut_in_found o (map (λ n. n.now) (drop (i + 1) path))
    cut_deeper ss o e r f none = at_name ∙ cut_step s ss o _ _ e r f ∙ rw none refl

    -- if the value cuts nothing below it, and no child has the next name, the path is not cut
    pub cut_nowhere : (ss : List (Subtree T)) → s.below ≡ spread ss → NamesRise ss
        → named (get_or path i d).now ss ≡ None → cuts_below (Some (m s.value)) ≡ false
        → cut_in tree (map (λ n. n.now) path) ≡ false
    cut_nowhere ss e r f none = cut_deeper ss None e r f none ∙ nothing_cut (map (λ n. n.now) (drop (i + 1) path))
