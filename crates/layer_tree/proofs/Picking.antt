-- What few marks leave of branches, searched for one by one, from the last. at_place, cut_at and in_gap say what one of them leaves;
-- Picking is the loop.
use Rattle.std.proofs.Common.{◌≡◌, ◌≢◌, ◌∙◌, sym, ap, subst, ℕ, zero, suc, ◌+◌, ◌<◌, ◌≤◌, inl, inr, List, [], ◌∷◌, ◌++◌, length, take, drop, get_or, refl, arith, append_assoc, Option, Some, None}
use Rattle.std.specs.Prelude.{slice_set, Result, Ok, Err, OnOk}
use Rattle.std.proofs.lemmas.List.{append-nil}
use Rattle.std.specs.declared.cmp.Ordering.TheVariants.{Less}
use Rattle.std.specs.List.{AllByRecursion}
use Rattle.stack_model.specs.Stack.{Path}
use Rattle.layer_paths.specs.Rows.{Subtree, name_cmp, named, NamesRise, IsForest, IsPlaceOf, IsGapFor, at_path, spread}
use Rattle.layer_paths.proofs.Names.{IsSameOrNot, same_or_not, below_differs, named_below, all_at, above_of}
use Rattle.layer_paths.proofs.Merging.{grown}
use Rattle.layer_paths.specs.declared.entries.Mark.{Mark}
use Rattle.layer_paths.specs.Marks.{cut_by}
use Rattle.layer_paths.proofs.Cutting.{cut_through, by_name}
use Rattle.layer_tree.specs.Laying.{unless, AreKept, IsLeftOut, IsKept}
use Rattle.layer_tree.proofs.Stepping.{Keeps, None_left, Untouched, Left_out, Kept, are_kept, no_marks}

unlike : (m : Subtree Mark) (n : List ℕ) → m.name ≢ n → named n (m ∷ []) ≡ None
unlike m n f = elim (same_or_not m.name n) [ inl x ↦ absurd (f x.0) | inr x ↦ rw x.1 refl ]

like : (m : Subtree Mark) (n : List ℕ) → m.name ≡ n → named n (m ∷ []) ≡ Some m
like m n e = elim (same_or_not m.name n) [ inl x ↦ rw x.1 refl | inr x ↦ absurd (x.0 e) ]

module _ {T : Type 0} (m : Subtree Mark) where
  abbrev Unmarked : List (Subtree T) → Type 0
  Unmarked ss = AllByRecursion (λ s. named s.name (m ∷ []) ≡ None) ss

  untouched : (ss : List (Subtree T)) → Unmarked ss → Keeps (m ∷ []) ss ss
  untouched [] a = None_left
  untouched (s ∷ ss) a = Untouched s ss ss a.0 (untouched ss a.1)

  above : (ss : List (Subtree T)) → AllByRecursion (λ t. name_cmp m.name t.name ≡ Less) ss → Unmarked ss
  above [] a = tt
  above (s ∷ ss) a = (unlike m s.name (below_differs m.name s.name a.0), above ss a.1)

  beside : (ss : List (Subtree T)) (i : ℕ) → IsGapFor m.name ss i → Unmarked ss
  beside [] i g = tt
  beside (s ∷ ss) zero g = (
    unlike m s.name (below_differs m.name s.name (above_of s.name m.name (g.1.1 0 s (omega arith) (omega arith)))),
    beside ss zero (
      omega arith,
      (λ k d l n. absurd (omega arith), λ k d l n. g.1.1 (suc k) d (omega arith) (omega arith)),
    ),
  )
  beside (s ∷ ss) (suc i) g = (
    unlike m s.name (λ e. below_differs s.name m.name (g.1.0 0 s (omega arith) (omega arith)) (sym e)),
    beside ss i (
      omega (arith, g.0),
      (λ k d l n. g.1.0 (suc k) d (omega arith) (omega arith), λ k d l n. g.1.1 (suc k) d (omega arith) (omega arith)),
    ),
  )

  -- of branches after the one with the mark's name none is touched
  behind : (s : Subtree T) (ss : List (Subtree T)) → NamesRise (s ∷ ss) → s.name ≡ m.name → Keeps (m ∷ []) ss ss
  behind s ss r e = untouched ss (above ss (subst (λ n. AllByRecursion (λ t. name_cmp n t.name ≡ Less) ss) e r.0))

  -- nor of those before it
  before : (s : Subtree T) (ss : List (Subtree T)) (i : ℕ) (d : Subtree T) → NamesRise (s ∷ ss) → i < length ss
      → (get_or ss i d).name ≡ m.name → named s.name (m ∷ []) ≡ None
  before s ss i d r l e = unlike m s.name (λ f. below_differs s.name m.name
      (subst (λ n. name_cmp s.name n ≡ Less) e (all_at s.name ss r.0 i d l)) (sym f))

  kept_there : (ss : List (Subtree T)) (b d : Subtree T) (i : ℕ) → NamesRise ss → i < length ss
      → (get_or ss i d).name ≡ m.name → IsKept (get_or ss i d) m b → Keeps (m ∷ []) ss (slice_set ss i b)
  kept_there [] b d i r l e k = absurd (omega arith)
  kept_there (s ∷ ss) b d zero r l e k = Kept s b ss ss m (like m s.name (sym e)) k (behind s ss r e)
  kept_there (s ∷ ss) b d (suc i) r l e k =
      let lt : i < length ss = omega arith in
      Untouched s ss (slice_set ss i b) (before s ss i d r lt e) (kept_there ss b d i r.1 lt e k)

  cut_there : (ss : List (Subtree T)) (d : Subtree T) (i : ℕ) → NamesRise ss → i < length ss
      → (get_or ss i d).name ≡ m.name → IsLeftOut m → Keeps (m ∷ []) ss (take i ss ++ drop (suc i) ss)
  cut_there [] d i r l e c = absurd (omega arith)
  cut_there (s ∷ ss) d zero r l e c = Left_out s ss ss m (like m s.name (sym e)) c (behind s ss r e)
  cut_there (s ∷ ss) d (suc i) r l e c =
      let lt : i < length ss = omega arith in
      Untouched s ss (take i ss ++ drop (suc i) ss) (before s ss i d r lt e) (cut_there ss d i r.1 lt e c)

  -- a mark whose name no branch has leaves all branches
  pub in_gap : (ss : List (Subtree T)) (i : ℕ) → IsForest ss → IsGapFor m.name ss i → AreKept ss (m ∷ []) ss
  in_gap ss i f g = are_kept (m ∷ []) (untouched ss (beside ss i g)) f (tt, tt)

  -- a mark that cuts the branch of its name leaves the others
  pub cut_at : (ss : List (Subtree T)) (d : Subtree T) (i : ℕ) → IsForest ss → IsPlaceOf m.name ss i → IsLeftOut m
      → AreKept ss (m ∷ []) (take i ss ++ drop (suc i) ss)
  cut_at ss d i f p c = are_kept (m ∷ []) (cut_there ss d i f.names p.0 (p.1 d) c) f (tt, tt)

  at_place : (ss : List (Subtree T)) (b d : Subtree T) (i : ℕ) → IsForest ss → IsPlaceOf m.name ss i
      → IsKept (get_or ss i d) m b → AreKept ss (m ∷ []) (slice_set ss i b)
  at_place ss b d i f p k = are_kept (m ∷ []) (kept_there ss b d i f.names p.0 (p.1 d) k) f (tt, tt)

  -- any other mark leaves what it leaves of the branch of its name, if that is known
  pub at_place_if : {E : Type 0} (r : Result (Unit {0}) E) (ss : List (Subtree T)) (l b : Subtree T) (i : ℕ) → IsForest ss
      → IsPlaceOf m.name ss i → l ≡ get_or ss i l → OnOk r (IsKept l m b) → OnOk r (AreKept ss (m ∷ []) (slice_set ss i b))
  at_place_if (Ok x) ss l b i f p e k = at_place ss b l i f p (subst (λ y. IsKept y m b) e k)
  at_place_if (Err x) ss l b i f p e k = tt

  -- what a mark leaves if others, which come after it, left the rest
  pub kept_more : (ls mid out : List (Subtree T)) (later : List (Subtree Mark)) → NamesRise (m ∷ later) → AreKept ls later mid
      → AreKept mid (m ∷ []) out → AreKept ls (m ∷ later) out
  kept_more ls mid out later r a b = record { forest = b.forest; at = at }
    where
      by_one : (n : List ℕ) (p : Path) (low : Option T) → IsSameOrNot m.name n
          → unless (cut_through (named n (m ∷ [])) p) (unless (cut_through (named n later) p) low)
          ≡ unless (cut_through (named n (m ∷ later)) p) low
      by_one n p low (inl x) =
          let none : named n later ≡ None = named_below n later
          (subst (λ i. AllByRecursion (λ t. name_cmp i t.name ≡ Less) later) x.0 r.0) in
          rw (none, x.1) refl
      by_one n p low (inr x) = rw x.1 refl

      at : (n : List ℕ) (p : Path) → at_path (spread out) (n ∷ p)
          ≡ unless (cut_by (λ q. at_path (spread (m ∷ later)) (n ∷ q)) p) (at_path (spread ls) (n ∷ p))
      at n p =
          let low = at_path (spread ls) (n ∷ p) in
          b.at n p
          ∙ ap (λ c. unless c (at_path (spread mid) (n ∷ p))) (by_name (m ∷ []) (tt, tt) n p)
          ∙ ap (λ x. unless (cut_through (named n (m ∷ [])) p) x)
          (a.at n p ∙ ap (λ c. unless c low) (by_name later r.1 n p))
          ∙ by_one n p low (same_or_not m.name n)
          ∙ ap (λ c. unless c low) (sym (by_name (m ∷ later) r n p))

-- the marks after those that are left have left this of the branches
pub record Picking {T : Type 0} (lows ls : List (Subtree T)) (marks left : List (Subtree Mark)) : Type 0 where
  pub later : List (Subtree Mark)
  pub is : marks ≡ left ++ later
  pub kept : AreKept lows later ls

end_rises : (xs ys : List (Subtree Mark)) → NamesRise (xs ++ ys) → NamesRise ys
end_rises [] ys r = r
end_rises (x ∷ xs) ys r = end_rises xs ys r.1

-- below one of them is less than in all
rows_of_one : (xs ys : List (Subtree Mark)) (m : Subtree Mark) → length m.below + 1 ≤ length (spread (xs ++ m ∷ ys))
rows_of_one [] ys m = omega (arith, grown m ys)
rows_of_one (x ∷ xs) ys m = omega (arith, grown x (xs ++ m ∷ ys), rows_of_one xs ys m)

module _ {T : Type 0} where
  -- at first all marks are left
  pub picking_begun : (lows : List (Subtree T)) (marks : List (Subtree Mark)) → IsForest lows → Picking lows lows marks marks
  picking_begun lows marks f = record {
    later = [];
    is = sym (append-nil marks);
    kept = no_marks lows f;
  }

  -- at last none is
  pub picking_ended : (lows ls : List (Subtree T)) (marks left : List (Subtree Mark)) → left ≡ [] → Picking lows ls marks left
      → AreKept lows marks ls
  picking_ended lows ls marks left e w =
      let all : marks ≡ w.later = w.is ∙ ap (λ xs. xs ++ w.later) e in
      subst (λ xs. AreKept lows xs ls) (sym all) w.kept

  module _ (lows ls : List (Subtree T)) (marks left before : List (Subtree Mark)) (m : Subtree Mark)
      (e : left ≡ before ++ m ∷ []) (w : Picking lows ls marks left) where
    split : marks ≡ before ++ (m ∷ w.later)
    split = w.is ∙ ap (λ xs. xs ++ w.later) e ∙ append_assoc before (m ∷ []) w.later

    -- each turn passes one more
    pub one_more : (out : List (Subtree T)) → NamesRise marks → AreKept ls (m ∷ []) out → Picking lows out marks before
    one_more out r k = record {
      later = m ∷ w.later;
      is = split;
      kept = kept_more m lows ls out w.later (end_rises before (m ∷ w.later) (subst NamesRise split r)) w.kept k;
    }

    -- below the next one is less than in all of them
    pub next_measure : length m.below + 1 ≤ length (spread marks)
    next_measure = omega (arith, rows_of_one before w.later m, ap (λ xs. length (spread xs)) split)
