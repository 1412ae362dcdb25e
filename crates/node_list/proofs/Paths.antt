-- Paths that begin with the names of another path. The main lemmas are `after_is` and `is_after`: the names after those of `top` are
-- exactly what follows it. The others restate this for the order of paths, for what is below, and for names of children.
use Rattle.std.proofs.Common.{◌≡◌, ◌≢◌, ◌∙◌, sym, ap, ℕ, inl, inr, List, [], ◌∷◌, ◌++◌, refl, Option, Some, None, true, false}
use Rattle.std.specs.declared.cmp.Ordering.TheVariants.{Less, Greater}
use Rattle.std.specs.Cmp.{IsTotalOrder}
use Rattle.std.specs.Ordering.{ordering_reverse}
use Rattle.std.specs.List.{AllByRecursion}
use Rattle.std.proofs.lemmas.Cmp.{nat_list_cmp_total, lists_total}
use Rattle.layer_paths.proofs.Names.{same_or_not, itself}
use Rattle.stack_model.specs.Stack.{Path}
use Rattle.stack_model.specs.Listing.{Entry, path_cmp, IsAmong}
use Rattle.stack_model.specs.Numbers.{same_name, name_below}
use Rattle.node_list.specs.Below.{after, is_below, is_some_name}

-- paths have a total order
pub order : IsTotalOrder path_cmp
order = lists_total nat_list_cmp_total

-- no path is before itself
pub not_itself : (p : Path) → path_cmp p p ≡ Less → ⊥
not_itself p e = let s = order.antisymm p p in let r : Less ≡ Greater = sym e ∙ s ∙ ap ordering_reverse e in cc

-- of two paths not each is before the other
pub not_both : (p q : Path) → path_cmp p q ≡ Less → path_cmp q p ≡ Less → ⊥
not_both p q d e = not_itself p (order.trans p q p d e)

-- names in front that are the same do not count
pub under_same : (top p q : Path) → path_cmp (top ++ p) (top ++ q) ≡ path_cmp p q
under_same [] p q = refl
under_same (n ∷ top) p q = rw (itself n) (under_same top p q)

-- what is below a path comes after it
pub comes_later : (top q : Path) (n : List ℕ) → path_cmp top (top ++ n ∷ q) ≡ Less
comes_later [] q n = refl
comes_later (m ∷ top) q n = rw (itself m) (comes_later top q n)

same_is_true : (n : List ℕ) → same_name n n ≡ true
same_is_true n = elim (same_or_not n n) [ inl x ↦ x.1 | inr x ↦ absurd (x.0 refl) ]

-- names that compare as the same are equal
pub same_is : (m n : List ℕ) → same_name m n ≡ true → m ≡ n
same_is m n e = elim (same_or_not m n) [ inl x ↦ x.0 | inr x ↦ absurd (let f = x.1 in cc) ]

-- the names after those of top follow them
pub after_is : (top path r : Path) → after top path ≡ Some r → path ≡ top ++ r
after_is [] path r e = cc
after_is (m ∷ top) [] r e = absurd (cc)
after_is (m ∷ top) (n ∷ path) r e = elim (same_or_not m n) [
  | inl x ↦ let g : after top path ≡ Some r = rw x.1 at e in ap (λ k. k ∷ path) (sym x.0) ∙ ap (λ q. m ∷ q) (after_is top path r g)
  | inr x ↦ absurd (let g = rw x.1 at e in cc)
]

-- the names of a path are followed by what was appended
pub is_after : (top r : Path) → after top (top ++ r) ≡ Some r
is_after [] r = refl
is_after (m ∷ top) r = rw (same_is_true m) (is_after top r)

-- what is below a name below the path
pub below_name : (top path r : Path) (x n : List ℕ) → after top path ≡ Some (n ∷ r)
    → (x ≡ n → is_below (top ++ x ∷ []) path ≡ is_some_name (Some r)) × (x ≢ n → is_below (top ++ x ∷ []) path ≡ false)
below_name top path r x n e = rw (after_is top path (n ∷ r) e) (go top)
  where
    go : (top : Path) → (x ≡ n → is_below (top ++ x ∷ []) (top ++ n ∷ r) ≡ is_some_name (Some r))
        × (x ≢ n → is_below (top ++ x ∷ []) (top ++ n ∷ r) ≡ false)
    go (m ∷ top) = rw (same_is_true m) (go top)
    go [] = elim (same_or_not x n) [
      | inl s ↦ ((λ i. rw s.1 refl), (λ f. absurd (f s.0)))
      | inr s ↦ (
        (λ i. absurd (s.0 i)),
        (λ f. rw s.1 refl),
      )
    ]

-- a path that does not begin with the names of `top` is not below any name in `top`
pub below_none : (top path : Path) (x : List ℕ) → after top path ≡ None → is_below (top ++ x ∷ []) path ≡ false
below_none [] path x e = absurd (cc)
below_none (m ∷ top) [] x e = refl
below_none (m ∷ top) (n ∷ path) x e = elim (same_or_not m n) [ inl s ↦ rw s.1 (below_none top path x (rw s.1 at e)) | inr s ↦ rw s.1 refl ]

-- `top` itself is not below any name in `top`
pub below_top : (top path : Path) (x : List ℕ) → after top path ≡ Some [] → is_below (top ++ x ∷ []) path ≡ false
below_top top path x e = rw (after_is top path [] e) (go top)
  where
    go : (top : Path) → is_below (top ++ x ∷ []) (top ++ []) ≡ false
    go [] = refl
    go (m ∷ top) = rw (same_is_true m) (go top)

-- the name of a child
abbrev pub only_name : Option Path → Option (List ℕ)
only_name (Some (n ∷ [])) = Some n
only_name _ = None

-- the model's name of a child is the only name after those of `top`
pub name_is : (top path : Path) → name_below top path ≡ only_name (after top path)
name_is [] [] = refl
name_is [] (n ∷ []) = refl
name_is [] (n ∷ m ∷ path) = refl
name_is (m ∷ top) [] = refl
name_is (m ∷ top) (n ∷ path) = elim (same_or_not m n) [ inl s ↦ rw s.1 (name_is top path) | inr s ↦ rw s.1 refl ]

-- an entry that is before all of these is before each of them
pub later : (e : Entry) (fs : List Entry) (f : Entry) → AllByRecursion (λ f. path_cmp e.path f.path ≡ Less) fs → IsAmong f fs
    → path_cmp e.path f.path ≡ Less
later e [] f l m = elim m [ ]
later e (g ∷ gs) f (l, ls) (inl i) = rw i l
later e (g ∷ gs) f (l, ls) (inr m) = later e gs f ls m
