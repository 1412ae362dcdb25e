-- The branches of two directories, laid one on another. `Merges` says step by step which branches come from both; these are in order, and
-- have at each path what is laid there (`are_laid`). The loop keeps `Merging`: what merges the remaining branches merges all. Each turn and
-- the end have a lemma, and so has the first element of a queue.
use Rattle.std.proofs.Common.{◌≡◌, sym, ap, subst, ℕ, ◌+◌, ◌*◌, ◌<◌, ◌≤◌, inl, inr, List, [], ◌∷◌, ◌++◌, length, get_or, drop, refl, arith, append_assoc, length-append, Option, Some, None}
use Rattle.std.proofs.lemmas.List.{append-nil}
use Rattle.std.proofs.lemmas.Map.Lookups.{exact_bytes}
use Rattle.std.specs.declared.cmp.Ordering.TheVariants.{Less, Equal, Greater}
use Rattle.std.specs.List.{AllByRecursion}
use Rattle.std.specs.Slice.{IsItemAt}
use Rattle.std.specs.Borrow.{Bor}
use Rattle.layer_paths.specs.Rows.{Subtree, name_cmp, named, NamesRise, IsRising, IsForest, at_path, spread, whole, prefixed, length_prefixed}
use Rattle.layer_paths.specs.Laying.{laid_at, IsLaid, AreLaid}
use Rattle.layer_paths.proofs.Names.{same_or_not, named_below, all_above, above_of}
use Rattle.layer_paths.proofs.Spread.{through, at_spread}
use Rattle.layer_paths.proofs.Rising.{branch_rises}

-- which branches come from both
pub data Merges {T : Type 0} (f : T → T → T) : List (Subtree T) → List (Subtree T) → List (Subtree T) → Type 0 where
  Lows_left : (ls : List (Subtree T)) → Merges f ls [] ls
  Highs_left : (hs : List (Subtree T)) → Merges f [] hs hs
  Low : (l h : Subtree T) (ls hs out : List (Subtree T)) → name_cmp l.name h.name ≡ Less → Merges f ls (h ∷ hs) out
      → Merges f (l ∷ ls) (h ∷ hs) (l ∷ out)
  High : (l h : Subtree T) (ls hs out : List (Subtree T)) → name_cmp h.name l.name ≡ Less → Merges f (l ∷ ls) hs out
      → Merges f (l ∷ ls) (h ∷ hs) (h ∷ out)
  Both : (l h b : Subtree T) (ls hs out : List (Subtree T)) → l.name ≡ h.name → IsLaid f l h b → Merges f ls hs out
      → Merges f (l ∷ ls) (h ∷ hs) (b ∷ out)

laid_none : {T : Type 0} (f : T → T → T) (x : Option T) → laid_at f None x ≡ x
laid_none f None = refl
laid_none f (Some e) = refl

module _ {T : Type 0} (f : T → T → T) where
  found : {ls hs out : List (Subtree T)} → Merges f ls hs out → NamesRise ls → NamesRise hs
      → (n : List ℕ) (p : List (List ℕ))
      → through (named n out) p ≡ laid_at f (through (named n ls) p) (through (named n hs) p)
  found (Lows_left ls) r s n p = refl
  found (Highs_left hs) r s n p = sym (laid_none f (through (named n hs) p))
  found (Low l h ls hs out lt m) r s n p = elim (same_or_not l.name n) [
    | inl x ↦ rw (
      named_below n (h ∷ hs) (subst (λ a. AllByRecursion (λ t. name_cmp a t.name ≡ Less) (h ∷ hs))
          x.0 (lt, all_above l.name h.name hs lt s.0)),
      x.1,
    )
    | inr x ↦ rw x.1 (found m r.1 s n p)
  ]
  found (High l h ls hs out lt m) r s n p = elim (same_or_not h.name n) [
    | inl x ↦ rw (
      named_below n (l ∷ ls) (subst (λ a. AllByRecursion (λ t. name_cmp a t.name ≡ Less) (l ∷ ls))
          x.0 (lt, all_above h.name l.name ls lt r.0)),
      x.1,
    ) (sym (laid_none f (at_path (whole h) p)))
    | inr x ↦ rw x.1 (found m r s.1 n p)
  ]
  found (Both l h b ls hs out e c m) r s n p = elim (same_or_not h.name n) [
    | inl x ↦ rw (c.name, e, x.1) (c.at p)
    | inr x ↦ rw (c.name, e, x.1) (found m r.1 s.1 n p)
  ]

  above : {ls hs out : List (Subtree T)} → Merges f ls hs out → (n : List ℕ)
      → AllByRecursion (λ t. name_cmp n t.name ≡ Less) ls → AllByRecursion (λ t. name_cmp n t.name ≡ Less) hs
      → AllByRecursion (λ t. name_cmp n t.name ≡ Less) out
  above (Lows_left ls) n a b = a
  above (Highs_left hs) n a b = b
  above (Low l h ls hs out lt m) n a b = (a.0, above m n a.1 b)
  above (High l h ls hs out lt m) n a b = (b.0, above m n a b.1)
  above (Both l h x ls hs out e c m) n a b = (rw c.name b.0, above m n a.1 b.1)

  rise : {ls hs out : List (Subtree T)} → Merges f ls hs out → NamesRise ls → NamesRise hs → NamesRise out
  rise (Lows_left ls) r s = r
  rise (Highs_left hs) r s = s
  rise (Low l h ls hs out lt m) r s = (above m l.name r.0 (lt, all_above l.name h.name hs lt s.0), rise m r.1 s)
  rise (High l h ls hs out lt m) r s = (above m h.name (lt, all_above h.name l.name ls lt r.0) s.0, rise m r s.1)
  rise (Both l h b ls hs out e c m) r s = (
    rw c.name
        (above m h.name (subst (λ a. AllByRecursion (λ t. name_cmp a t.name ≡ Less) ls) e r.0) s.0),
    rise m r.1
        s.1,
  )

  each : {ls hs out : List (Subtree T)} → Merges f ls hs out → AllByRecursion IsRising ls → AllByRecursion IsRising hs
      → AllByRecursion IsRising out
  each (Lows_left ls) r s = r
  each (Highs_left hs) r s = s
  each (Low l h ls hs out lt m) r s = (r.0, each m r.1 s)
  each (High l h ls hs out lt m) r s = (s.0, each m r s.1)
  each (Both l h b ls hs out e c m) r s = (c.rising, each m r.1 s.1)

  -- the branches that come from both directories are those of one laid on the other
  pub are_laid : {ls hs out : List (Subtree T)} → Merges f ls hs out → IsForest ls → IsForest hs → AreLaid f ls hs out
  are_laid {ls} {hs} {out} m r s =
      let names = rise m r.names s.names in
      record {
        forest = record { names = names; each = each m r.each s.each };
        at = λ n p. rw (at_spread out names n p, at_spread hs s.names n p, at_spread ls r.names n p) (found m r.names s.names n p);
      }

  -- over no lower branches there are the upper ones alone
  pub no_lows : (ls hs : List (Subtree T)) → ls ≡ [] → IsForest ls → IsForest hs → AreLaid f ls hs hs
  no_lows ls hs e r s = let m : Merges f ls hs hs = rw e (Highs_left hs) in are_laid m r s

  -- with no upper branches there are the lower ones alone
  pub no_highs : (ls hs : List (Subtree T)) → hs ≡ [] → IsForest ls → IsForest hs → AreLaid f ls hs ls
  no_highs ls hs e r s = let m : Merges f ls hs ls = rw e (Lows_left ls) in are_laid m r s

  -- a branch over children that are laid is the upper branch laid on the lower one
  pub branch_laid : (low high : Subtree T) (ls hs out : List (Subtree T)) → low.below ≡ spread ls
      → high.below ≡ spread hs → AreLaid f ls hs out
      → IsLaid f low high (record { name = high.name; value = f low.value high.value; below = spread out })
  branch_laid low high ls hs out e d a = record {
    name = refl;
    rising = branch_rises high.name (f low.value high.value) out a.forest;
    at = at;
  }
    where
      at : (path : List (List ℕ)) → at_path (whole (record
          { name = high.name; value = f low.value high.value; below = spread out })) path ≡ laid_at f
          (at_path (whole low) path) (at_path (whole high) path)
      at [] = refl
      at (n ∷ p) = rw (e, d) (a.at n p)

-- ls0 and hs0 are merged up to ls and hs, which are left
pub record Merging {T : Type 0} (f : T → T → T) (ls0 hs0 ls hs out : List (Subtree T)) : Type 0 where
  pub merged : (more : List (Subtree T)) → Merges f ls hs more → Merges f ls0 hs0 (out ++ more)
  pub smaller : length (spread ls) + length (spread hs) ≤ length (spread ls0) + length (spread hs0)

-- at first all branches are left of both directories
pub merging_begun : {T : Type 0} (f : T → T → T) (ls hs : List (Subtree T)) → Merging f ls hs ls hs []
merging_begun f ls hs = record { merged = λ more m. m; smaller = omega arith }

-- a turn that takes a lower branch leaves less
pub low_less : {X : Type 0} (l : X) (ls ls' hs : List X) → ls ≡ l ∷ ls' → length ls' + length hs < length ls + length hs
low_less l ls ls' hs e = rw e (omega arith)

-- and one that takes an upper branch
pub high_less : {X : Type 0} (h : X) (ls hs hs' : List X) → hs ≡ h ∷ hs' → length ls + length hs' < length ls + length hs
high_less h ls hs hs' e = rw e (omega arith)

-- and one that takes one of both
pub both_less : {X : Type 0} (l h : X) (ls ls' hs hs' : List X) → ls ≡ l ∷ ls' → hs ≡ h ∷ hs'
    → length ls' + length hs' < length ls + length hs
both_less l h ls ls' hs hs' e f = rw (e, f) (omega arith)

-- a branch adds one row to a directory, and those below it
pub grown : {T : Type 0} (s : Subtree T) (ss : List (Subtree T)) → length (spread (s ∷ ss)) ≡ length s.below + length (spread ss) + 1
grown s ss = omega (arith, length-append (prefixed s.name s.below) (spread ss), length_prefixed s.name s.below)

-- of what is left, l and h are the first branches
module _ {T : Type 0} (f : T → T → T) (ls0 hs0 ls hs out : List (Subtree T)) (l h : Subtree T)
    (inv : Merging f ls0 hs0 (l ∷ ls) (h ∷ hs) out) where
  -- if the lower side's first name comes first, its branch is appended unchanged
  pub low_first : name_cmp l.name h.name ≡ Less → Merging f ls0 hs0 ls (h ∷ hs) (out ++ l ∷ [])
  low_first lt = record {
    merged = λ more m. rw append_assoc (inv.merged (l ∷ more) (Low l h ls hs more lt m));
    smaller = omega (arith, grown l ls, inv.smaller);
  }

  -- if the upper side's first name comes first, its branch is appended unchanged
  pub high_first : name_cmp l.name h.name ≡ Greater → Merging f ls0 hs0 (l ∷ ls) hs (out ++ h ∷ [])
  high_first gt = record {
    merged = λ more m. rw append_assoc (inv.merged (h ∷ more) (High l h ls hs more (above_of l.name h.name gt) m));
    smaller = omega (arith, grown h hs, inv.smaller);
  }

  -- if both first names are equal, the branch appended is the upper one laid on the lower
  pub both_first : (b : Subtree T) → name_cmp l.name h.name ≡ Equal → IsLaid f l h b → Merging f ls0 hs0 ls hs (out ++ b ∷ [])
  both_first b e c = record {
    merged = λ more m. rw append_assoc (inv.merged (b ∷ more) (Both l h b ls hs more (exact_bytes l.name h.name e) c m));
    smaller = omega (arith, grown l ls, grown h hs, inv.smaller);
  }

-- the children of first branches are fewer than all that is left
pub below_measure : {T : Type 0} (ls ls' hs hs' : List (Subtree T)) (l h : Subtree T) → ls ≡ l ∷ ls' → hs ≡ h ∷ hs'
    → 2 * (length l.below + length h.below) + 1 < 2 * (length (spread ls) + length (spread hs))
below_measure ls ls' hs hs' l h e d = rw (e, d) (omega (arith, grown l ls', grown h hs'))

module _ {T : Type 0} (f : T → T → T) (ls0 hs0 ls hs out : List (Subtree T)) (inv : Merging f ls0 hs0 ls hs out) where
  -- all that is left is no more than all
  pub left_measure : 2 * (length (spread ls) + length (spread hs)) < 2 * (length (spread ls0) + length (spread hs0)) + 1
  left_measure = omega (arith, inv.smaller)

  -- if no upper branches are left, the lower ones that are left complete the result
  pub lows_left : hs ≡ [] → Merges f ls0 hs0 ((out ++ ls) ++ hs)
  lows_left e = rw (e, append-nil) (inv.merged ls (rw e (Lows_left ls)))

  -- if no lower branches are left, the upper ones that are left complete the result
  pub highs_left : ls ≡ [] → Merges f ls0 hs0 ((out ++ ls) ++ hs)
  highs_left e = rw (e, append-nil) (inv.merged hs (rw e (Highs_left hs)))

-- what a queue shows at its front is its first element
pub shown : {X : Type 0} (xs : List X) (x : Bor X) → IsItemAt xs 0 (Some x) → xs ≡ x.now ∷ drop 1 xs
shown [] x e = absurd (let n = e.0 in cc)
shown (y ∷ ys) x e = let n : x.now ≡ y = e.1 in cc

-- if one is shown, the queue is not empty
pub some_shown : {X : Type 0} (xs : List X) (x : Bor X) → IsItemAt xs 0 (Some x) → 0 < length xs
some_shown [] x e = absurd (let n = e.0 in cc)
some_shown (y ∷ ys) x e = omega arith

-- a queue that shows nothing at its front is empty
pub nothing_shown : {X : Type 0} (xs : List X) → IsItemAt xs 0 None → xs ≡ []
nothing_shown [] e = refl
nothing_shown (y ∷ ys) e = absurd (let n = e.2 (omega arith) in cc)

-- the element at the front is the first
pub front_is : {X : Type 0} (xs : List X) (x : X) → 0 < length xs → x ≡ get_or xs 0 x → xs ≡ x ∷ drop 1 xs
front_is [] x l e = absurd (omega arith)
front_is (y ∷ ys) x l e = ap (λ z. z ∷ ys) (sym e)
