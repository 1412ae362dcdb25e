-- Paths that begin with a path, and rows below one. The main lemma is child_located: a child of a located branch is located too. The lemmas
-- before it say that no other row begins with the child's path: not those before and after the branch, and not those of children with other
-- names.
use Rattle.std.proofs.Common.{◌≡◌, ◌≢◌, ◌∙◌, sym, ap, ℕ, suc, ◌+◌, ◌-◌, inl, inr, List, [], ◌∷◌, ◌++◌, length, take, refl, arith, append_assoc, length-append, true, false, Some}
use Rattle.std.specs.Prelude.{find}
use Rattle.std.specs.List.{AllByRecursion}
use Rattle.std.specs.Option.{option_map}
use Rattle.std.proofs.lemmas.List.{take_at, length_push, length-map, map-append}
use Rattle.std.specs.declared.cmp.Ordering.TheVariants.{Less}
use Rattle.layer_paths.specs.Rows.{Subtree, Rows, prefixed, spread, whole, name_cmp, NamesRise}
use Rattle.layer_paths.proofs.Names.{same_or_not, below_differs}
use Rattle.stack_model.specs.Stack.{Path}
use Rattle.stack_model.specs.Numbers.{same_name, same_path}
use Rattle.node_table.specs.Walks.{under, extends, IsApart, IsLocated}

-- a name equals itself
pub same_itself : (n : List ℕ) → same_name n n ≡ true
same_itself n = elim (same_or_not n n) [ inl x ↦ x.1 | inr x ↦ absurd (x.0 refl) ]

-- names that differ are unequal
pub differ : (m n : List ℕ) → m ≢ n → same_name m n ≡ false
differ m n f = elim (same_or_not m n) [ inl x ↦ absurd (f x.0) | inr x ↦ x.1 ]

-- a path that does not begin with top begins with nothing longer
pub extends_more : (top : Path) (n : List ℕ) (q : Path) → extends top q ≡ false → extends (top ++ n ∷ []) q ≡ false
extends_more [] n q e = absurd (cc)
extends_more (m ∷ top) n [] e = refl
extends_more (m ∷ top) n (k ∷ q) e = elim (same_or_not m k) [
  | inl x ↦ rw x.1 (extends_more top n q (rw x.1 at e))
  | inr x ↦ rw x.1 refl
]

-- nor is it top
pub not_same : (top q : Path) → extends top q ≡ false → same_path top q ≡ false
not_same [] q e = absurd (cc)
not_same (m ∷ top) [] e = refl
not_same (m ∷ top) (k ∷ q) e = elim (same_or_not m k) [
  | inl x ↦ rw x.1 (not_same top q (rw x.1 at e))
  | inr x ↦ rw x.1 refl
]

-- top does not begin with what is longer
pub longer : (top : Path) (n : List ℕ) → extends (top ++ n ∷ []) (top ++ []) ≡ false
longer [] n = refl
longer (m ∷ top) n = rw (same_itself m) (longer top n)

-- a path equals itself, also with nothing written after it
pub same_top : (top : Path) → same_path top (top ++ []) ≡ true
same_top [] = refl
same_top (m ∷ top) = rw (same_itself m) (same_top top)

-- what continues below top with another name does not begin with the longer path
pub other_name : (top : Path) (n m : List ℕ) (q : Path) → n ≢ m → extends (top ++ n ∷ []) (top ++ m ∷ q) ≡ false
other_name [] n m q d = rw (differ n m d) refl
other_name (k ∷ top) n m q d = rw (same_itself k) (other_name top n m q d)

-- a path one name longer, but for its last name, is the path
pub upper : (top : Path) (n : List ℕ) → take (length (top ++ n ∷ []) - 1) (top ++ n ∷ []) ≡ top
upper top n = take_at top (n ∷ []) (length (top ++ n ∷ []) - 1) (omega (arith, length_push top n))

module _ {T : Type 0} where
  -- two lists of rows, one after the other, stay so below a path
  pub under_append : (top : Path) (xs ys : Rows T) → under top (xs ++ ys) ≡ under top xs ++ under top ys
  under_append top xs ys = map-append (λ (row : Path × T). (top ++ row.0, row.1)) xs ys

  -- below a path are as many rows
  pub length_under : (top : Path) (xs : Rows T) → length (under top xs) ≡ length xs
  length_under top xs = length-map xs (λ (row : Path × T). (top ++ row.0, row.1))

  -- rows after a name and then below a path are rows below the path with the name
  pub under_prefixed : (top : Path) (n : List ℕ) (xs : Rows T) → under top (prefixed n xs) ≡ under (top ++ n ∷ []) xs
  under_prefixed top n [] = refl
  under_prefixed top n (x ∷ xs) =
      ap (λ p. (p, x.1) ∷ under top (prefixed n xs)) (sym (append_assoc top (n ∷ []) x.0))
      ∙ ap (λ r. ((top ++ n ∷ []) ++ x.0, x.1) ∷ r) (under_prefixed top n xs)

  -- the rows of two lists of branches follow one another
  pub spread_append : (ls bs : List (Subtree T)) → spread (ls ++ bs) ≡ spread ls ++ spread bs
  spread_append [] bs = refl
  spread_append (s ∷ ls) bs =
      ap (λ r. (s.name ∷ [], s.value) ∷ (prefixed s.name s.below ++ r)) (spread_append ls bs)
      ∙ ap (λ r. (s.name ∷ [], s.value) ∷ r) (sym (append_assoc (prefixed s.name s.below) (spread ls) (spread bs)))

  -- two lists of rows that are apart from a path are apart from it together
  pub apart_append : (top : Path) (xs ys : Rows T) → IsApart top xs → IsApart top ys → IsApart top (xs ++ ys)
  apart_append top [] ys a b = b
  apart_append top (x ∷ xs) ys a b = (a.0, apart_append top xs ys a.1 b)

  -- rows of which none begins with a path have none that begins with a longer one
  pub apart_more : (top : Path) (n : List ℕ) (xs : Rows T) → IsApart top xs → IsApart (top ++ n ∷ []) xs
  apart_more top n [] a = tt
  apart_more top n (x ∷ xs) a = (extends_more top n x.0 a.0, apart_more top n xs a.1)

  apart_prefixed : (top : Path) (n m : List ℕ) (xs : Rows T) → n ≢ m → IsApart (top ++ n ∷ []) (under top (prefixed m xs))
  apart_prefixed top n m [] d = tt
  apart_prefixed top n m (x ∷ xs) d = (other_name top n m x.0 d, apart_prefixed top n m xs d)

  -- the rows of branches with other names do not begin with this name's path
  pub apart_spread : (top : Path) (n : List ℕ) (ss : List (Subtree T)) → AllByRecursion (λ s. n ≢ s.name) ss
      → IsApart (top ++ n ∷ []) (under top (spread ss))
  apart_spread top n [] a = tt
  apart_spread top n (s ∷ ss) a = (
    other_name top n s.name [] a.0,
    rw (under_append top (prefixed s.name s.below) (spread ss))
        (apart_append (top ++ n ∷ []) (under top (prefixed s.name s.below)) (under top (spread ss))
        (apart_prefixed top n s.name s.below a.0) (apart_spread top n ss a.1)),
  )

  -- the branches before one have other names
  pub before_differs : (ls : List (Subtree T)) (c : Subtree T) (bs : List (Subtree T)) → NamesRise (ls ++ c ∷ bs)
      → AllByRecursion (λ s. c.name ≢ s.name) ls
  before_differs [] c bs r = tt
  before_differs (a ∷ ls) c bs r = ((λ e. below_differs a.name c.name (among ls r.0) (sym e)), before_differs ls c bs r.1)
    where
      among : (ls : List (Subtree T)) → AllByRecursion (λ t. name_cmp a.name t.name ≡ Less) (ls ++ c ∷ bs) → name_cmp a.name c.name ≡ Less
      among [] l = l.0
      among (x ∷ ls) l = among ls l.1

  -- the branches after one have other names
  pub after_differs : (ls : List (Subtree T)) (c : Subtree T) (bs : List (Subtree T)) → NamesRise (ls ++ c ∷ bs)
      → AllByRecursion (λ s. c.name ≢ s.name) bs
  after_differs [] c bs r = later bs r.0
    where
      later : (bs : List (Subtree T)) → AllByRecursion (λ t. name_cmp c.name t.name ≡ Less) bs → AllByRecursion (λ s. c.name ≢ s.name) bs
      later [] l = tt
      later (b ∷ bs) l = (below_differs c.name b.name l.0, later bs l.1)
  after_differs (a ∷ ls) c bs r = after_differs ls c bs r.1

  find_at : (top : Path) (before : Rows T) (v : T) (rest : Rows T) → IsApart top before
      → find (λ row. same_path top row.0) (before ++ (top ++ [], v) ∷ rest) ≡ Some (top ++ [], v)
  find_at top [] v rest a = rw (same_top top) refl
  find_at top (x ∷ before) v rest a = rw (not_same top x.0 a.0) (find_at top before v rest a.1)

  regroup : (a : Rows T) (r : Path × T) (b c d e : Rows T) → (a ++ r ∷ (b ++ (c ++ d))) ++ e ≡ (a ++ r ∷ b) ++ c ++ (d ++ e)
  regroup a r b c d e =
      append_assoc a (r ∷ (b ++ (c ++ d))) e
      ∙ ap (λ x. a ++ r ∷ x) (append_assoc b (c ++ d) e ∙ ap (λ x. b ++ x) (append_assoc c d e))
      ∙ sym (append_assoc (a ++ r ∷ b) c (d ++ e) ∙ append_assoc a (r ∷ b) (c ++ (d ++ e)))

  -- a child of a located branch is located, after the branch and the children before it
  pub child_located : (rows : Rows T) (j : ℕ) (s : Subtree T) (above : T) → IsLocated rows j s above
      → (ls : List (Subtree T)) (c : Subtree T) (bs : List (Subtree T)) → s.below ≡ spread (ls ++ c ∷ bs) → NamesRise (ls ++ c ∷ bs)
      → IsLocated rows (j + suc (length (spread ls))) c s.value
  child_located rows j s above l ls c bs e r =
      let top = l.top in
      let inner : Rows T = under top (spread ls) in
      let mine : Rows T = under (top ++ c.name ∷ []) (whole c) in
      let last : Rows T = under top (spread bs) in
      let row : Path × T = (top ++ [], s.value) in
      let below_is : under top s.below ≡ inner ++ (mine ++ last) =
      ap (under top) (e ∙ spread_append ls (c ∷ bs))
      ∙ under_append top (spread ls) (spread (c ∷ bs))
      ∙ ap (λ x. inner ++ x) (under_append top (prefixed c.name (whole c)) (spread bs)
      ∙ ap (λ x. x ++ last) (under_prefixed top c.name (whole c))) in
      record {
        top = top ++ c.name ∷ [];
        before = l.before ++ row ∷ inner;
        after = last ++ l.after;
        is = l.is ∙ ap (λ x. (l.before ++ row ∷ x) ++ l.after) below_is ∙ regroup l.before row inner mine last l.after;
        at = lengths l.before row (spread ls) top j l.at;
        apart_before = apart_append (top ++ c.name ∷ []) l.before (row ∷ inner) (apart_more top c.name l.before l.apart_before)
            (longer top c.name, apart_spread top c.name ls (before_differs ls c bs r));
        apart_after = apart_append (top ++ c.name ∷ []) last l.after (apart_spread top c.name bs (after_differs ls c bs r))
            (apart_more top c.name l.after l.apart_after);
        above_is = rw (upper top c.name, l.is, append_assoc l.before (row ∷ under top s.below) l.after)
            (ap (option_map (λ (x : Path × T). x.1)) (find_at top l.before s.value (under top s.below ++ l.after) l.apart_before));
      }
    where
      lengths : (before : Rows T) (row : Path × T) (xs : Rows T) (top : Path) (j : ℕ) → length before ≡ j
          → length (before ++ row ∷ under top xs) ≡ j + suc (length xs)
      lengths before row xs top j e = omega (arith, length-append before (row ∷ under top xs), length_under top xs)
