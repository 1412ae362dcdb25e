-- Branches by the order of their names. Names rise strictly, so a directory has at most one branch with a name (`named_at`), and none if
-- names pass from lower to higher ones (`named_between`); `from_name` says that binary search is possible.
use Rattle.std.proofs.Common.{◌≡◌, ◌≢◌, ◌∙◌, sym, ap, subst, ℕ, zero, suc, ◌<◌, ◌≤◌, ◌⊎◌, inl, inr, List, [], ◌∷◌, length, get_or, refl, arith, Bool, true, false, Some, None}
use Rattle.std.specs.declared.cmp.Ordering.{Ordering}
use Rattle.std.specs.declared.cmp.Ordering.TheVariants.{Less, Equal, Greater}
use Rattle.std.specs.Ordering.{ordering_reverse, ordering_index}
use Rattle.std.specs.List.{AllByRecursion}
use Rattle.std.specs.List.Sorted.{IsNonDecreasingBy, IsSearchInRange, IsBinarySearchResult}
use Rattle.std.specs.Prelude.{nat_eq, Result, Ok, Err, MatchResult}
use Rattle.std.specs.Cmp.Lexicographic.{pointwise, same_text, other_text}
use Rattle.std.proofs.lemmas.Bool.{cases_lt}
use Rattle.std.proofs.lemmas.Cmp.{nat_list_cmp_total}
use Rattle.std.proofs.lemmas.Map.Lookups.{exact_bytes}
use Rattle.layer_paths.specs.Rows.{Subtree, name_cmp, named, NamesRise, IsPlaceOf, IsParted, IsGapFor}

-- two names are the same and the test is true, or they differ and it is false
abbrev pub IsSameOrNot : List ℕ → List ℕ → Type 0
IsSameOrNot a b = ((a ≡ b) × (pointwise nat_eq a b ≡ true)) ⊎ ((a ≢ b) × (pointwise nat_eq a b ≡ false))

-- the test of two names says whether they are the same
pub same_or_not : (a b : List ℕ) → IsSameOrNot a b
same_or_not a b = pick (pointwise nat_eq a b) refl
  where
    pick : (r : Bool) → r ≡ pointwise nat_eq a b → IsSameOrNot a b
    pick true e = inl (same_text a b e, sym e)
    pick false e = inr (other_text a b e, sym e)

-- no name comes before itself
pub not_below_itself : (a : List ℕ) → name_cmp a a ≡ Less → ⊥
not_below_itself a e = let s = nat_list_cmp_total.antisymm a a in let r : Less ≡ Greater = sym e ∙ s ∙ ap ordering_reverse e in cc

-- a name that comes before another differs from it
pub below_differs : (a b : List ℕ) → name_cmp a b ≡ Less → a ≢ b
below_differs a b l e = not_below_itself a (subst (λ x. name_cmp a x ≡ Less) (sym e) l)

-- if a name comes after another, that one comes before it
pub above_of : (a b : List ℕ) → name_cmp a b ≡ Greater → name_cmp b a ≡ Less
above_of a b e = nat_list_cmp_total.antisymm b a ∙ ap ordering_reverse e

-- the order finds a name equal to itself
pub itself : (a : List ℕ) → name_cmp a a ≡ Equal
itself a = by_case (name_cmp a a) refl (nat_list_cmp_total.antisymm a a)
  where
    by_case : (o : Ordering) → o ≡ name_cmp a a → o ≡ ordering_reverse o → o ≡ Equal
    by_case Less e s = absurd (not_below_itself a (sym e))
    by_case Equal e s = refl
    by_case Greater e s = absurd (cc)

-- branches that all come after a name come after each name before it
pub all_above : {T : Type 0} (n m : List ℕ) (ss : List (Subtree T)) → name_cmp n m ≡ Less
    → AllByRecursion (λ t. name_cmp m t.name ≡ Less) ss → AllByRecursion (λ t. name_cmp n t.name ≡ Less) ss
all_above n m [] l a = tt
all_above n m (s ∷ ss) l a = (nat_list_cmp_total.trans n m s.name l a.0, all_above n m ss l a.1)

-- no branch has a name that comes before all of theirs
pub named_below : {T : Type 0} (n : List ℕ) (ss : List (Subtree T)) → AllByRecursion (λ t. name_cmp n t.name ≡ Less) ss → named n ss ≡ None
named_below n [] a = refl
named_below n (s ∷ ss) a = elim (same_or_not s.name n) [
  | inl x ↦ absurd (below_differs n s.name a.0 (sym x.0))
  | inr x ↦ rw x.1
      (named_below n ss a.1)
]

-- a branch that comes after a name, of branches that do
pub all_at : {T : Type 0} (n : List ℕ) (ss : List (Subtree T)) → AllByRecursion (λ t. name_cmp n t.name ≡ Less) ss
    → (i : ℕ) (d : Subtree T) → i < length ss → name_cmp n (get_or ss i d).name ≡ Less
all_at n [] a i d l = absurd (omega arith)
all_at n (s ∷ ss) a zero d l = a.0
all_at n (s ∷ ss) a (suc i) d l = all_at n ss a.1 i d (omega arith)

-- a branch with a name is the one of that name
pub named_at : {T : Type 0} (n : List ℕ) (ss : List (Subtree T)) → NamesRise ss → (i : ℕ) (d : Subtree T)
    → i < length ss → (get_or ss i d).name ≡ n → named n ss ≡ Some (get_or ss i d)
named_at n [] r i d l e = absurd (omega arith)
named_at n (s ∷ ss) r zero d l e = elim (same_or_not s.name n) [ inl x ↦ rw x.1 | inr x ↦ absurd (x.0 e) ]
named_at n (s ∷ ss) r (suc i) d l e =
    let lt : i < length ss = omega arith in
    elim (same_or_not s.name n) [
      | inl x ↦ absurd (below_differs s.name _ (all_at s.name ss r.0 i d lt) (x.0 ∙ sym e))
      | inr x ↦ rw x.1 (named_at n ss r.1 i d lt e)
    ]

named_nowhere : {T : Type 0} (n : List ℕ) (ss : List (Subtree T))
    → ((i : ℕ) (d : Subtree T) → i < length ss → name_cmp (get_or ss i d).name n ≢ Equal) → named n ss ≡ None
named_nowhere n [] f = refl
named_nowhere n (s ∷ ss) f = elim (same_or_not s.name n) [
  | inl x ↦ absurd (f 0 s (omega arith) (rw x.0 (itself n)))
  | inr x ↦ rw x.1 (named_nowhere n ss (λ i d l. f (suc i) d (omega arith)))
]

-- if branches part into lesser and greater names, none has the name
pub named_between : {T : Type 0} (n : List ℕ) (ss : List (Subtree T)) (i : ℕ) → IsParted n ss i → named n ss ≡ None
named_between n ss i p = named_nowhere n ss (λ k d l e. elim (cases_lt k i) [
  | inl lt ↦ absurd (let f = p.0 k d (omega arith) lt in cc)
  | inr ge ↦ absurd (let f = p.1 k d ge l in cc)
])

keeps : (a b n : List ℕ) → name_cmp a b ≡ Less → (o p : Ordering) → o ≡ name_cmp a n → p ≡ name_cmp b n
    → ordering_index o ≤ ordering_index p
keeps a b n l Less p d e = omega arith
keeps a b n l Equal Less d e = absurd (not_below_itself b
    (nat_list_cmp_total.trans b a b (subst (λ x. name_cmp b x ≡ Less) (sym (exact_bytes a n (sym d))) (sym e))
    l))
keeps a b n l Equal Equal d e = omega arith
keeps a b n l Equal Greater d e = omega arith
keeps a b n l Greater Less d e = absurd
    (not_below_itself a (nat_list_cmp_total.trans a b a l (nat_list_cmp_total.trans b n a (sym e) (above_of a n (sym d)))))
keeps a b n l Greater Equal d e = absurd (not_below_itself a
    (nat_list_cmp_total.trans a b a l (subst (λ x. name_cmp x a ≡ Less) (sym (exact_bytes b n (sym e)))
    (above_of a n (sym d)))))
keeps a b n l Greater Greater d e = omega arith

-- compared with any name, branches in order are first less, then equal, then greater
pub from_name : {T : Type 0} (n : List ℕ) (ss : List (Subtree T)) → NamesRise ss
    → IsNonDecreasingBy (λ s. ordering_index (name_cmp s.name n)) ss
from_name n [] r i j d le lt = absurd (omega arith)
from_name n (s ∷ ss) r zero zero d le lt = omega arith
from_name n (s ∷ ss) r zero (suc j) d le lt = keeps s.name (get_or ss j d).name n (all_at s.name ss r.0 j d (omega arith)) _ _ refl refl
from_name n (s ∷ ss) r (suc i) zero d le lt = absurd (omega arith)
from_name n (s ∷ ss) r (suc i) (suc j) d le lt = from_name n ss r.1 i j d (omega arith) (omega arith)

-- if binary search finds a name, a branch has it, and if it finds none, there is a gap for it
pub placed : {T : Type 0} (n : List ℕ) (ss : List (Subtree T)) → NamesRise ss → (r : Result ℕ ℕ) → IsSearchInRange r (length ss)
    → IsBinarySearchResult (λ s. name_cmp s.name n) ss r → MatchResult r (IsPlaceOf n ss) (IsGapFor n ss)
placed n ss rise (Ok i) l e = (l, λ d. exact_bytes (get_or ss i d).name n (e d))
placed n ss rise (Err i) l e = (l, e (from_name n ss rise))
