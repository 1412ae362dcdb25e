-- How many rows are below a path, and so how large a branch is. A located branch has all rows that begin with its path, and no others
-- (rows_below): so two branches at one place agree in value and in size, and a branch ends within the rows.
use Rattle.std.proofs.Common.{◌≡◌, ◌∙◌, sym, ap, ℕ, ◌+◌, ◌≤◌, [], ◌∷◌, ◌++◌, length, refl, arith, length-append, true, Some}
use Rattle.std.specs.Prelude.{slice_get}
use Rattle.std.proofs.lemmas.List.{append-nil}
use Rattle.stack_model.specs.Stack.{Path}
use Rattle.layer_paths.specs.Rows.{Subtree, Rows, whole}
use Rattle.layer_paths.specs.declared.entries.Entry.{Entry}
use Rattle.node_table.specs.Walks.{under, extends, IsApart, IsLocated}
use Rattle.node_table.proofs.Counting.{count, count_append}
use Rattle.node_table.proofs.Paths.{same_itself, length_under}
use Rattle.node_table.proofs.ListedPlaces.{row_at}

-- how many rows begin with a path
abbrev count_below : Path → Rows Entry → ℕ
count_below top xs = count (λ (x : Path × Entry). extends top x.0) xs

count_apart : (top : Path) (xs : Rows Entry) → IsApart top xs → count_below top xs ≡ 0
count_apart top [] a = refl
count_apart top (x ∷ xs) a = rw a.0 (count_apart top xs a.1)

extends_on : (top q : Path) → extends top (top ++ q) ≡ true
extends_on [] q = refl
extends_on (n ∷ top) q = rw (same_itself n) (extends_on top q)

count_under : (top : Path) (xs : Rows Entry) → count_below top (under top xs) ≡ length xs
count_under top [] = refl
count_under top (x ∷ xs) = rw (extends_on top x.0) (let e = count_under top xs in omega arith)

rows_below : (rows : Rows Entry) (j : ℕ) (s : Subtree Entry) (above : Entry) (l : IsLocated rows j s above)
    → count_below l.top rows ≡ length (whole s)
rows_below rows j s above l =
    let t = (λ (x : Path × Entry). extends l.top x.0) in
    ap (count t) l.is ∙ count_append t (l.before ++ under l.top (whole s)) l.after
    ∙ ap (λ n. n + count t l.after) (count_append t l.before (under l.top (whole s)))
    ∙ sums _ _ _ (count_apart l.top l.before l.apart_before) (count_under l.top (whole s)) (count_apart l.top l.after l.apart_after)
  where
    sums : (a b c : ℕ) → a ≡ 0 → b ≡ length (whole s) → c ≡ 0 → a + b + c ≡ length (whole s)
    sums a b c e f g = omega arith

-- branches at one place have as many rows below them, and one value
module _ (rows : Rows Entry) (j : ℕ) (s s' : Subtree Entry) (above above' : Entry) (l : IsLocated rows j s above)
    (l' : IsLocated rows j s' above') where
  tops : (a b : Path × Entry) → slice_get rows j ≡ Some a → slice_get rows j ≡ Some b → a ≡ b
  tops a b e f = let g : Some a ≡ Some b = sym e ∙ f in cc

  rows_are : (top top' : Path × Entry) → top ≡ (l.top ++ [], s.value) → top' ≡ (l'.top ++ [], s'.value) → top ≡ top'
  rows_are top top' e f = tops top top' (row_at rows j s above l ∙ ap Some (sym e)) (row_at rows j s' above' l' ∙ ap Some (sym f))

  -- two branches at one place have one value
  pub same_value : s.value ≡ s'.value
  same_value = ap (λ (r : Path × Entry). r.1) (rows_are (l.top ++ [], s.value) (l'.top ++ [], s'.value) refl refl)

  -- two branches at one place have as many rows
  pub same_size : length (whole s) ≡ length (whole s')
  same_size =
      let top = sym (append-nil l.top) ∙ ap (λ (r : Path × Entry). r.0) (rows_are (l.top ++ [], s.value) (l'.top ++ [], s'.value) refl refl)
      ∙ append-nil l'.top in
      sym (rows_below rows j s above l) ∙ ap (λ t. count_below t rows) top ∙ rows_below rows j s' above' l'

-- a branch ends within the rows
pub ends_within : (rows : Rows Entry) (j : ℕ) (s : Subtree Entry) (above : Entry) → IsLocated rows j s above → j + length (whole s)
    ≤ length rows
ends_within rows j s above l =
    let a = ap length l.is in
    let b = length-append (l.before ++ under l.top (whole s)) l.after in
    let c = length-append l.before (under l.top (whole s)) in
    let d = l.at in
    let e = length_under l.top (whole s) in
    omega arith
