-- Branches and marks in step, in the order of names. IsPassed is the loop that searches for a name, Keeping the loop over branches and
-- their marks, Keeps what it makes of each, and are_kept what that is for all. all_cut, alone and inside say what a mark leaves of one
-- branch.
use Rattle.std.proofs.Common.{◌≡◌, ◌≢◌, ◌∙◌, sym, ap, subst, ℕ, ◌+◌, ◌<◌, ◌≤◌, inl, inr, List, [], ◌∷◌, ◌++◌, length, refl, arith, append_assoc, Option, Some, None, Bool, true, false}
use Rattle.std.specs.Prelude.{option_to_list}
use Rattle.std.proofs.lemmas.List.{append-nil}
use Rattle.std.proofs.lemmas.Cmp.{nat_list_cmp_total}
use Rattle.std.specs.declared.cmp.Ordering.TheVariants.{Less, Equal, Greater}
use Rattle.std.specs.List.{AllByRecursion}
use Rattle.layer_paths.specs.Rows.{Subtree, name_cmp, named, NamesRise, IsRising, IsForest, at_path, spread, whole}
use Rattle.layer_paths.specs.Laying.{PassesWith, TakesChildren}
use Rattle.layer_paths.proofs.Names.{same_or_not, not_below_itself, named_below, all_above, above_of}
use Rattle.layer_paths.proofs.Spread.{through, at_spread}
use Rattle.layer_paths.proofs.Rising.{branch_rises}
use Rattle.layer_paths.proofs.Merging.{grown}
use Rattle.std.proofs.lemmas.Map.Lookups.{exact_bytes}
use Rattle.stack_model.specs.Stack.{Path}
use Rattle.layer_paths.specs.declared.entries.Mark.{Mark}
use Rattle.layer_paths.specs.Marks.{cut_by}
use Rattle.layer_tree.specs.Laying.{unless, AreKept, AreChildrenLeft, IsLeft, IsLeftOut, IsKept, IsFrom, KeepsFirst}
use Rattle.layer_paths.proofs.Cutting.{nothing_cut, cut_same, cut_through, by_name}

-- some branches were passed over, all with names before this one
pub record IsPassed {T : Type 0} (name : List ℕ) (branches rest : List (Subtree T)) : Type 0 where
  pub names : NamesRise rest
  pub same : (n : List ℕ) → name_cmp n name ≢ Less → named n rest ≡ named n branches

-- of what is left, s is the first branch
module _ {T : Type 0} (name : List ℕ) (branches rest later : List (Subtree T)) (s : Subtree T)
    (inv : IsPassed name branches rest) (e : rest ≡ s ∷ later) where
  rises : NamesRise (s ∷ later)
  rises = subst NamesRise e inv.names

  -- a branch whose name comes before is passed over
  pub pass_one : name_cmp s.name name ≡ Less → IsPassed name branches later
  pass_one l = record {
    names = rises.1;
    same = λ n f. elim (same_or_not s.name n) [
      | inl x ↦ absurd (f (subst (λ m. name_cmp m name ≡ Less) x.0 l))
      | inr x ↦ (let k : named n (s ∷ later) ≡ named n later = rw x.1 refl in sym k ∙ ap (named n) (sym e) ∙ inv.same n f)
    ];
  }

  -- the walk stops at the first name that does not come before
  pub from_here : name_cmp s.name name ≢ Less → IsFrom name branches rest
  from_here f = record { none = rw e f; names = inv.names; same = inv.same }

  -- a first branch with the name is the one of that name
  pub first_named : name_cmp s.name name ≡ Equal → named name rest ≡ Some s
  first_named q = elim (same_or_not s.name name) [ inl x ↦ rw (e, x.1) | inr x ↦ absurd (x.0 (exact_bytes s.name name q)) ]

  -- if the first branch comes after, no branch has the name
  pub none_named : name_cmp s.name name ≡ Greater → named name rest ≡ None
  none_named g =
      let l = above_of s.name name g in
      ap (named name) e ∙ named_below name (s ∷ later) (l, all_above name s.name later l rises.0)

-- what is left of branches, one by one
pub data Keeps {T : Type 0} (marks : List (Subtree Mark)) : List (Subtree T) → List (Subtree T) → Type 0 where
  None_left : Keeps marks [] []
  Untouched : (l : Subtree T) (ls out : List (Subtree T)) → named l.name marks ≡ None → Keeps marks ls out → Keeps marks (l ∷ ls) (l ∷ out)
  Left_out : (l : Subtree T) (ls out : List (Subtree T)) (m : Subtree Mark) → named l.name marks ≡ Some m
      → IsLeftOut m → Keeps marks ls out → Keeps marks (l ∷ ls) out
  Kept : (l b : Subtree T) (ls out : List (Subtree T)) (m : Subtree Mark) → named l.name marks ≡ Some m
      → IsKept l m b → Keeps marks ls out → Keeps marks (l ∷ ls) (b ∷ out)

-- of nothing, nothing is left
pub unless_none : {T : Type 0} (b : Bool) → unless {T = T} b None ≡ None
unless_none true = refl
unless_none false = refl

module _ {T : Type 0} (marks : List (Subtree Mark)) where
  above : {ls out : List (Subtree T)} → Keeps marks ls out → (n : List ℕ)
      → AllByRecursion (λ t. name_cmp n t.name ≡ Less) ls → AllByRecursion (λ t. name_cmp n t.name ≡ Less) out
  above None_left n a = tt
  above (Untouched l ls out e k) n a = (a.0, above k n a.1)
  above (Left_out l ls out m e c k) n a = above k n a.1
  above (Kept l b ls out m e c k) n a = (rw c.name a.0, above k n a.1)

  rise : {ls out : List (Subtree T)} → Keeps marks ls out → NamesRise ls → NamesRise out
  rise None_left r = tt
  rise (Untouched l ls out e k) r = (above k l.name r.0, rise k r.1)
  rise (Left_out l ls out m e c k) r = rise k r.1
  rise (Kept l b ls out m e c k) r = (rw c.name (above k l.name r.0), rise k r.1)

  each : {ls out : List (Subtree T)} → Keeps marks ls out → AllByRecursion IsRising ls → AllByRecursion IsRising out
  each None_left r = tt
  each (Untouched l ls out e k) r = (r.0, each k r.1)
  each (Left_out l ls out m e c k) r = each k r.1
  each (Kept l b ls out m e c k) r = (c.rising, each k r.1)

  cut_off : (b : Bool) (x : Option T) → b ≡ true → unless b x ≡ None
  cut_off true x e = refl
  cut_off false x e = absurd (cc)

  found : {ls out : List (Subtree T)} → Keeps marks ls out → NamesRise ls → (n : List ℕ) (p : Path)
      → through (named n out) p ≡ unless (cut_through (named n marks) p) (through (named n ls) p)
  found None_left r n p = sym (unless_none (cut_through (named n marks) p))
  found (Untouched l ls out e k) r n p = elim (same_or_not l.name n) [
    | inl x ↦ (let f : named n marks ≡ None = subst (λ m. named m marks ≡ None) x.0 e in rw (x.1, f) refl)
    | inr x ↦ rw x.1 (found k r.1 n p)
  ]
  found (Left_out l ls out m e c k) r n p = elim (same_or_not l.name n) [
    | inl x ↦ (
        let f : named n marks ≡ Some m = subst (λ i. named i marks ≡ Some m) x.0 e in
        let none : named n out ≡ None = named_below n out (subst (λ i. AllByRecursion (λ t. name_cmp i t.name ≡ Less) out) x.0
        (above k l.name r.0)) in
        rw (none, x.1, f) (sym (cut_off (cut_by (at_path (whole m)) p) (at_path (whole l) p) (c.cut p))))
    | inr x ↦ rw x.1 (found k r.1 n p)
  ]
  found (Kept l b ls out m e c k) r n p = elim (same_or_not l.name n) [
    | inl x ↦ (let f : named n marks ≡ Some m = subst (λ i. named i marks ≡ Some m) x.0 e in rw (c.name, x.1, f) (c.at p))
    | inr x ↦ rw (c.name, x.1) (found k r.1 n p)
  ]

  -- what is left of one branch after another is what marks leave of all
  pub are_kept : {ls out : List (Subtree T)} → Keeps marks ls out → IsForest ls → NamesRise marks → AreKept ls marks out
  are_kept {ls} {out} k f r =
      let names = rise k f.names in
      record {
        forest = record { names = names; each = each k f.each };
        at = λ n p. at_spread out names n p ∙ found k f.names n p
            ∙ sym (ap (λ b. unless b (at_path (spread ls) (n ∷ p))) (by_name marks r n p)
            ∙ ap (λ o. unless (cut_through (named n marks) p) o) (at_spread ls f.names n p));
      }

-- with no marks all is kept
pub no_marks : {T : Type 0} (ls : List (Subtree T)) → IsForest ls → AreKept ls [] ls
no_marks ls f = record { forest = f; at = λ n p. rw (nothing_cut p) refl }

not_less : (a b : List ℕ) → name_cmp a b ≡ Less → name_cmp b a ≢ Less
not_less a b f g = not_below_itself a (nat_list_cmp_total.trans a b a f g)

-- what was the same for later names stays the same when branches before one name are passed over
pub still_same : {T U : Type 0} (name : List ℕ) (rest rest' all : List (Subtree U)) → IsFrom name rest rest' → (ls : List (Subtree T))
    → AllByRecursion (λ t. name_cmp name t.name ≡ Less) ls
    → AllByRecursion (λ k. named k.name rest ≡ named k.name all) ls
    → AllByRecursion (λ k. named k.name rest' ≡ named k.name all) ls
still_same name rest rest' all from [] a s = tt
still_same name rest rest' all from (k ∷ ks) a s = (
  from.same k.name (not_less name k.name a.0) ∙ s.0,
  still_same name rest rest' all from ks a.1 s.1,
)

-- lows are traversed up to ls, with the marks up to rest
pub record Keeping {T : Type 0} (lows ls out : List (Subtree T)) (marks rest : List (Subtree Mark)) : Type 0 where
  pub kept : (more : List (Subtree T)) → Keeps marks ls more → Keeps marks lows (out ++ more)
  pub names : NamesRise ls
  pub rest_names : NamesRise rest
  pub same : AllByRecursion (λ l. named l.name rest ≡ named l.name marks) ls

all_same : {T : Type 0} (ls : List (Subtree T)) (marks : List (Subtree Mark))
    → AllByRecursion (λ l. named l.name marks ≡ named l.name marks) ls
all_same [] marks = tt
all_same (l ∷ ls) marks = (refl, all_same ls marks)

-- before the first branch all branches and marks are still to be traversed
pub keeping_begun : {T : Type 0} (lows : List (Subtree T)) (marks : List (Subtree Mark)) → IsForest lows
    → NamesRise marks → Keeping lows lows [] marks marks
keeping_begun lows marks f r = record {
  kept = λ more k. k;
  names = f.names;
  rest_names = r;
  same = all_same lows marks;
}

-- below a branch that is found is less than in its directory
pub named_measure : {T : Type 0} (n : List ℕ) (ss : List (Subtree T)) (s : Subtree T) → named n ss ≡ Some s
    → length s.below + 1 ≤ length (spread ss)
named_measure {T} n [] s e = absurd (cc)
named_measure {T} n (x ∷ xs) s e = elim (same_or_not x.name n) [
  | inl y ↦ (let f = rw y.1 at e in let same : x ≡ s = cc in omega (arith, grown x xs, ap (λ (z : Subtree T). length z.below) same))
  | inr y ↦ omega (arith, grown x xs, named_measure n xs s (rw y.1 at e))
]

-- of what is left, l is the first branch
module _ {T : Type 0} (lows ls out : List (Subtree T)) (marks rest rest' : List (Subtree Mark)) (l : Subtree T)
    (inv : Keeping lows (l ∷ ls) out marks rest) (from : IsFrom l.name rest rest')
  where
    -- passing over marks leaves the one with the branch's name, if there is one
    pub at_mark : named l.name rest' ≡ named l.name marks
    at_mark = from.same l.name (not_below_itself l.name) ∙ inv.same.0

    on : (out' : List (Subtree T))
        → ((more : List (Subtree T)) → Keeps marks ls more → Keeps marks lows (out' ++ more))
        → Keeping lows ls out' marks rest'
    on out' k = record {
      kept = k;
      names = inv.names.1;
      rest_names = from.names;
      same = still_same l.name rest rest' marks from ls inv.names.0 inv.same.1;
    }

    -- below the mark of the branch is less than in all of them
    pub mark_measure : (m : Subtree Mark) → named l.name rest' ≡ Some m → length m.below + 1 ≤ length (spread marks)
    mark_measure m n = named_measure l.name marks m (sym at_mark ∙ n)

    -- a branch without a mark is left as it is
    pub untouched : named l.name rest' ≡ None → Keeping lows ls (out ++ l ∷ []) marks rest'
    untouched n = on (out ++ l ∷ []) (λ more k. rw append_assoc (inv.kept (l ∷ more) (Untouched l ls more (sym at_mark ∙ n) k)))

    -- if its mark cuts all of a branch, nothing is left of it
    pub left_out : (m : Subtree Mark) → named l.name rest' ≡ Some m → IsLeftOut m → Keeping lows ls out marks rest'
    left_out m n c = on out (λ more k. inv.kept more (Left_out l ls more m (sym at_mark ∙ n) c k))

    -- of any other branch with a mark, what that leaves is left
    pub kept_one : (m : Subtree Mark) (b : Subtree T) → named l.name rest' ≡ Some m → IsKept l m b
        → Keeping lows ls (out ++ b ∷ []) marks rest'
    kept_one m b n c = on (out ++ b ∷ []) (λ more k. rw append_assoc (inv.kept (b ∷ more) (Kept l b ls more m (sym at_mark ∙ n) c k)))

    -- what a mark leaves of a branch, if anything, is kept
    pub kept_or_not : (m : Subtree Mark) (o : Option (Subtree T)) → named l.name rest' ≡ Some m → IsLeft l m o
        → Keeping lows ls (out ++ option_to_list o) marks rest'
    kept_or_not m None n k = rw append-nil (left_out m n k)
    kept_or_not m (Some b) n k = kept_one m b n k

-- with no branch to go, what is left is what marks leave of all
pub keeping_ended : {T : Type 0} (lows ls out : List (Subtree T)) (marks rest : List (Subtree Mark))
    → Keeping lows ls out marks rest → ls ≡ [] → IsForest lows → NamesRise marks
    → AreKept lows marks out
keeping_ended lows ls out marks rest inv e f r = are_kept marks (subst (Keeps marks lows) (append-nil out) (inv.kept [] (rw e None_left))) f
    r

-- a list without its first element is shorter
pub shorter : {X : Type 0} (x : X) (all rest : List X) → all ≡ x ∷ rest → length rest < length all
shorter x all rest e = rw e (omega arith)

-- a list with a first element is not empty
pub some_first : {X : Type 0} (x : X) (all rest : List X) → all ≡ x ∷ rest → 0 < length all
some_first x all rest e = rw e (omega arith)

-- a mark that cuts its branch leaves nothing
pub all_cut : (mark : Subtree Mark) → mark.value.cut ≡ true → IsLeftOut mark
all_cut mark e = record { cut = cut }
  where
    cut : (path : Path) → cut_by (at_path (whole mark)) path ≡ true
    cut [] = e
    cut (n ∷ path) = rw e refl

-- a branch with nothing below it has rising paths
pub leaf_rises : {T : Type 0} (s : Subtree T) → s.below ≡ [] → IsRising s
leaf_rises s e = record { rises = rw e (tt, tt) }

-- an opaque mark leaves the branch alone
pub alone : {T : Type 0} (low : Subtree T) (mark : Subtree Mark) → mark.value.cut ≡ false
    → mark.value.opaque ≡ true → IsKept low mark (record { name = low.name; value = low.value; below = [] })
alone low mark e o = record { name = refl; rising = leaf_rises _ refl; at = at }
  where
    at : (path : Path) → at_path (whole (record { name = low.name; value = low.value; below = [] })) path
        ≡ unless (cut_by (at_path (whole mark)) path) (at_path (whole low) path)
    at [] = rw e refl
    at (n ∷ path) = rw (e, o) refl

-- a mark that cuts nothing itself leaves of a branch what the marks below it leave
pub inside : {T : Type 0} (low : Subtree T) (mark : Subtree Mark) (lows out : List (Subtree T))
    (marks : List (Subtree Mark)) → mark.value.cut ≡ false → mark.value.opaque ≡ false → low.below ≡ spread lows
    → mark.below ≡ spread marks → AreKept lows marks out
    → IsKept low mark (record { name = low.name; value = low.value; below = spread out })
inside low mark lows out marks e o f g k = record { name = refl; rising = branch_rises low.name low.value out k.forest; at = at }
  where
    at : (path : Path) → at_path (whole (record { name = low.name; value = low.value; below = spread out }))
        path ≡ unless (cut_by (at_path (whole mark)) path) (at_path (whole low) path)
    at [] = rw e refl
    at (n ∷ path) = rw (e, o, f) (k.at n path ∙ ap (λ b. unless b (at_path (spread lows) (n ∷ path)))
        (cut_same (λ q. at_path (spread marks) (n ∷ q)) (λ q. at_path mark.below (n ∷ q))
        (λ q. ap (λ rows. at_path rows (n ∷ q)) (sym g)) path))

-- a branch with what a mark leaves of its children is what the mark leaves of it
pub with_children : {T : Type 0} (low : Subtree T) (mark : Subtree Mark) (lows out : List (Subtree T)) → low.below ≡ spread lows
    → AreChildrenLeft mark lows out → IsKept low mark (record { name = low.name; value = low.value; below = spread out })
with_children low mark lows out e left =
    subst (λ below. IsKept (record { name = low.name; value = low.value; below = below }) mark
    (record { name = low.name; value = low.value; below = spread out })) (sym e) (left.kept low.name low.value)

-- if the children of the first branch were taken, and it is passed on with what a mark leaves of
-- them, what the mark leaves of it is kept
pub kept_first : {T : Type 0} (mark : Subtree Mark) (lows between lows' kept kept' children left : List (Subtree T))
    → TakesChildren lows between children → AreChildrenLeft mark children left → PassesWith left between lows' kept kept'
    → KeepsFirst mark lows lows' kept kept'
kept_first {T} mark lows between lows' kept kept' children left t l p =
    let same : record { name = t.first.name; value = t.first.value; below = [] } ∷ t.rest ≡ p.first ∷ lows' = sym t.left ∙ p.left in
    let first : record { name = t.first.name; value = t.first.value; below = [] } ≡ p.first = cc in
    let rest : t.rest ≡ lows' = cc in
    record {
      low = t.first;
      left = Some (record { name = t.first.name; value = t.first.value; below = spread left });
      first = t.was ∙ ap (λ xs. t.first ∷ xs) rest;
      is = with_children t.first mark children left t.below l;
      added = p.added
          ∙ ap (λ (s : Subtree T). kept ++ record { name = s.name; value = s.value; below = spread left } ∷ []) (sym first);
    }
