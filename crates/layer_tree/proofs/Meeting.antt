-- Two trees that are traversed in step, neither of which has a file where the other has more than a file. IsMeeting is the loop over the
-- branches of two directories, Meeting what it finds for each name, both ways at once, and are_apart what that says about the directories.
use Rattle.std.proofs.Common.{◌≡◌, ◌∙◌, sym, ap, subst, ℕ, ◌+◌, ◌*◌, ◌<◌, ◌≤◌, inl, inr, List, [], ◌∷◌, length, refl, arith, Option, Some, None}
use Rattle.std.specs.Prelude.{option_map}
use Rattle.std.specs.List.{AllByRecursion}
use Rattle.stack_model.specs.Stack.{Path}
use Rattle.layer_paths.specs.Rows.{Subtree, named, NamesRise, spread, whole}
use Rattle.layer_paths.proofs.Names.{same_or_not, not_below_itself}
use Rattle.layer_paths.proofs.Spread.{at_spread}
use Rattle.layer_paths.proofs.Merging.{grown}
use Rattle.layer_paths.specs.declared.entries.Mark.{Mark}
use Rattle.layer_paths.specs.Marks.{marked}
use Rattle.layer_tree.specs.Laying.{IsFrom, Clash, AreClashes, AreApart, IsApart}
use Rattle.layer_tree.proofs.Clashing.{clash_same, no_files, no_others, marked_in}
use Rattle.layer_tree.proofs.Stepping.{still_same, named_measure}

-- neither needs a mark for the other
abbrev pub Apart : (Path → Option Mark) → (Path → Option Mark) → Type 0
Apart f o = Clash f o (λ q. None) × Clash o f (λ q. None)

-- the branches of a directory, each apart from the other one of its name
pub data Meeting {T : Type 0} (m : T → Mark) (os : List (Subtree T)) : List (Subtree T) → Type 0 where
  none_met : Meeting m os []
  met : (f : Subtree T) (fs : List (Subtree T)) → Apart (marked m (whole f)) (marked_in m (named f.name os))
      → Meeting m os fs → Meeting m os (f ∷ fs)

module _ {T : Type 0} (m : T → Mark) (os : List (Subtree T)) where
  -- so it is at each name
  found : {fs : List (Subtree T)} → Meeting m os fs → NamesRise fs → (n : List ℕ)
      → Apart (marked_in m (named n fs)) (marked_in m (named n os))
  found none_met r n = (no_files (marked_in m (named n os)), no_others (marked_in m (named n os)))
  found (met f fs w c) r n = elim (same_or_not f.name n) [
    | inl x ↦ rw x.1 (subst (λ i. Apart (marked m (whole f)) (marked_in m (named i os))) x.0 w)
    | inr x ↦ rw x.1 (found c r.1 n)
  ]

  -- one way of two lists that are apart at each name
  one_way : (fs gs : List (Subtree T)) → NamesRise fs → NamesRise gs
      → ((n : List ℕ) → Clash (marked_in m (named n fs)) (marked_in m (named n gs)) (λ q. None)) → AreClashes m fs gs []
  one_way fs gs r s c = record {
    forest = record { names = tt; each = tt };
    at = λ n. clash_same (marked_in m (named n fs)) (λ q. marked m (spread fs) (n ∷ q)) (marked_in m (named n gs))
        (λ q. marked m (spread gs) (n ∷ q)) (λ q. None) (λ q. None)
        (λ q. ap (λ x. option_map m x) (sym (at_spread fs r n q))) (λ q. ap (λ x. option_map m x) (sym (at_spread gs s n q)))
        (λ q. refl) (c n);
  }

  -- branches that are apart at each name clash nowhere, whichever are the files
  pub are_apart : {fs : List (Subtree T)} → Meeting m os fs → NamesRise fs → NamesRise os → AreApart m fs os
  are_apart {fs} c r s = record {
    low_files = one_way fs os r s (λ n. (found c r n).0);
    high_files = one_way os fs s r (λ n. (found c r n).1);
  }

-- files are traversed up to left, with the others up to rest
pub record IsMeeting {T : Type 0} (m : T → Mark) (files left others rest : List (Subtree T)) : Type 0 where
  pub meeting : Meeting m others left → Meeting m others files
  pub names : NamesRise left
  pub rest_names : NamesRise rest
  pub same : AllByRecursion (λ f. named f.name rest ≡ named f.name others) left
  pub smaller : length (spread left) ≤ length (spread files)

-- of what is left, f is the first branch
module _ {T : Type 0} (m : T → Mark) (files later others rest rest' : List (Subtree T)) (f : Subtree T)
    (inv : IsMeeting m files (f ∷ later) others rest) (from : IsFrom f.name rest rest') where
  at_other : named f.name rest' ≡ named f.name others
  at_other = from.same f.name (not_below_itself f.name) ∙ inv.same.0

  on : Apart (marked m (whole f)) (marked_in m (named f.name rest')) → IsMeeting m files later others rest'
  on w = record {
    meeting = λ c. inv.meeting (met f later (rw (sym at_other) w) c);
    names = inv.names.1;
    rest_names = from.names;
    same = still_same f.name rest rest' others from later inv.names.0 inv.same.1;
    smaller = omega (arith, grown f later, inv.smaller);
  }

  -- a branch whose name the others have not is passed over
  pub alone : named f.name rest' ≡ None → IsMeeting m files later others rest'
  alone n = on (rw n (no_others (marked m (whole f)), no_files (marked m (whole f))))

  -- a branch that is apart from the other one of its name is passed over
  pub apart : (o : Subtree T) → named f.name rest' ≡ Some o → IsApart m f o → IsMeeting m files later others rest'
  apart o n w = on (rw n (w.low_file, w.high_file))

  -- there is less to traverse below two branches with one name than in all of them
  pub deeper_measure : (o : Subtree T) → named f.name rest' ≡ Some o
      → 3 * (length f.below + length o.below) + 2 < 3 * (length (spread files) + length (spread others))
  deeper_measure o n = omega (arith, grown f later, inv.smaller, named_measure f.name others o (sym at_other ∙ n))

-- with none left, the branches of the two directories clash nowhere
pub meeting_ended : {T : Type 0} (m : T → Mark) (files left others rest : List (Subtree T))
    → IsMeeting m files left others rest → left ≡ [] → NamesRise files → NamesRise others → AreApart m files others
meeting_ended m files left others rest inv e r s = are_apart m others (inv.meeting (rw e none_met)) r s
