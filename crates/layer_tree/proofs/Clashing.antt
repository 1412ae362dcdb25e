-- The marks of clashes, and their use. IsClashing is the loop over the files of a directory, Clashing what it makes of each, are_clashes
-- what that is for all. From the marks follows what is left of the lower tree (what_is_left), and what both remove (what_both_remove).
use Rattle.std.proofs.Common.{◌≡◌, ◌∙◌, sym, ap, subst, ℕ, ◌+◌, ◌*◌, ◌<◌, ◌≤◌, ◌⊎◌, inl, inr, List, [], ◌∷◌, ◌++◌, append_assoc, length, refl, arith, Option, Some, None, Bool, true, false, ◌||◌, not}
use Rattle.std.proofs.lemmas.Bool.{not-false, or_cases, or_left, or_right}
use Rattle.std.proofs.lemmas.List.{append-nil}
use Rattle.std.specs.Prelude.{option_map}
use Rattle.std.specs.List.{AllByRecursion}
use Rattle.std.specs.declared.cmp.Ordering.TheVariants.{Less}
use Rattle.stack_model.specs.Stack.{Path}
use Rattle.stack_model.specs.Attributes.{is_directory}
use Rattle.layer_paths.specs.Rows.{Subtree, name_cmp, named, NamesRise, IsRising, at_path, spread, whole}
use Rattle.layer_paths.specs.Laying.{laid_at}
use Rattle.layer_paths.proofs.Names.{same_or_not, named_below, not_below_itself}
use Rattle.layer_paths.proofs.Spread.{through, at_spread}
use Rattle.layer_paths.proofs.Merging.{grown}
use Rattle.layer_paths.specs.declared.entries.Entry.{Entry}
use Rattle.layer_paths.specs.declared.entries.Mark.{Mark}
use Rattle.layer_paths.specs.Marks.{cuts_itself, cuts_below, cut_by, marked, mark_of, covered_by, removed_by}
use Rattle.layer_tree.specs.Laying.{unless, IsFrom, is_uncut, IsBare, IsLeafAt, Clash, AreClashes, IsClashMark}
use Rattle.layer_paths.specs.Marks.{upper}
use Rattle.layer_paths.proofs.Cutting.{nothing_cut, cut_same}
use Rattle.layer_tree.proofs.Removing.{IsFile, both_ways, cut_extends, covering_file, file_covers, removed_extends}
use Rattle.layer_tree.proofs.Stepping.{unless_none, all_cut, still_same}

module _ (f f' o o' c c' : Path → Option Mark) (ef : (q : Path) → f q ≡ f' q)
    (eo : (q : Path) → o q ≡ o' q) (ec : (q : Path) → c q ≡ c' q) where
  -- clashes of the same marks are the same
  pub clash_same : Clash f o c → Clash f' o' c'
  clash_same w = record { sound = sound; whole = whole }
    where
      sound : (path : Path) → cut_by c' path ≡ true → cut_by f' path ≡ true
      sound path e = sym (cut_same f f' ef path) ∙ w.sound path (cut_same c c' ec path ∙ e)

      whole : (q : Path) → cuts_itself (f' q) ≡ true → (cut_by c' q ≡ true) ⊎ IsLeafAt o' q
      whole q e = elim (w.whole q (ap cuts_itself (ef q) ∙ e)) [
        | inl x ↦ inl (sym (cut_same c c' ec q) ∙ x)
        | inr l ↦ inr (record {
          itself = ap is_uncut (sym (eo q)) ∙ l.itself;
          below = λ n p. sym (eo (q ++ n ∷ p)) ∙ l.below n p;
        })
      ]

-- marks that cut nothing may be left out
pub clash_without : (f o c : Path → Option Mark) → ((path : Path) → cut_by c path ≡ false) → Clash f o c → Clash f o (λ q. None)
clash_without f o c none w = record {
  sound = λ path e. absurd (let x = nothing_cut path in cc);
  whole = λ q e. elim (w.whole q e) [ inl x ↦ absurd (let y = none q in cc) | inr l ↦ inr l ];
}

-- if there are no files, nothing clashes
pub no_files : (o : Path → Option Mark) → Clash (λ q. None) o (λ q. None)
no_files o = record { sound = λ path e. absurd (let x = nothing_cut path in cc); whole = λ q e. absurd (cc) }

-- if there is nothing else, no file clashes
pub no_others : (f : Path → Option Mark) → Clash f (λ q. None) (λ q. None)
no_others f = record {
  sound = λ path e. absurd (let x = nothing_cut path in cc);
  whole = λ q e. inr (record { itself = refl; below = λ n p. refl });
}

module _ {T : Type 0} (m : T → Mark) where
  -- a cut mark represents what cuts itself, whatever it clashes with
  pub file_marked : (f o : Subtree T) (n : List ℕ) (mark : Mark) → mark.cut ≡ true → (m f.value).cut ≡ true
      → Clash (marked m (whole f)) (marked m (whole o)) (at_path (whole (record { name = n; value = mark; below = [] })))
  file_marked f o n mark cut file = record {
    sound = λ path e. cut_extends (marked m (whole f)) [] path file;
    whole = λ q e. inl ((all_cut (record { name = n; value = mark; below = [] }) cut).cut q);
  }

  -- if the other one is a leaf, none is needed
  pub file_alone : (f o : Subtree T) → IsBare m o → Clash (marked m (whole f)) (marked m (whole o)) (λ q. None)
  file_alone f o bare = record { sound = λ path e. absurd (let x = nothing_cut path in cc); whole = λ q e. inr (leaf q) }
    where
      below : (n : List ℕ) (p : Path) → marked m (whole o) (n ∷ p) ≡ None
      below n p = rw bare.nothing refl

      leaf : (q : Path) → IsLeafAt (marked m (whole o)) q
      leaf [] = record { itself = ap not bare.itself; below = below }
      leaf (n ∷ q) = record { itself = ap is_uncut (below n q); below = λ k p. below n (q ++ k ∷ p) }

  -- two branches of which the first does not cut itself clash if those below them do
  pub folders : (f o : Subtree T) (fs os : List (Subtree T)) (ks : List (Subtree Mark)) (n : List ℕ) (mark : Mark)
      → f.below ≡ spread fs → o.below ≡ spread os → (m f.value).cut ≡ false → mark.cut ≡ false
      → mark.opaque ≡ false → AreClashes m fs os ks
      → Clash (marked m (whole f)) (marked m (whole o)) (at_path (whole (record { name = n; value = mark; below = spread ks })))
  folders f o fs os ks n mark ef eo d uncut clear w = record { sound = sound; whole = into }
    where
      sound : (path : Path) → cut_by (at_path (whole (record { name = n; value = mark; below = spread ks }))) path ≡ true
          → cut_by (marked m (whole f)) path ≡ true
      sound [] e = absurd (cc)
      sound (k ∷ p) e =
          let x : cut_by (λ q. at_path (spread ks) (k ∷ q)) p ≡ true = rw (uncut, clear) at e in
          or_right (cuts_below (Some (m f.value))) (cut_by (λ q. marked m (whole f) (k ∷ q)) p) (rw ef ((w.at k).sound p x))

      into : (q : Path) → cuts_itself (marked m (whole f) q) ≡ true
          → (cut_by (at_path (whole (record { name = n; value = mark; below = spread ks }))) q ≡ true) ⊎ IsLeafAt (marked m (whole o)) q
      into [] e = absurd (cc)
      into (k ∷ q) e = elim ((w.at k).whole q (rw ef at e)) [
        | inl x ↦ inl (or_right (cuts_below (Some mark)) (cut_by (λ p. at_path (spread ks) (k ∷ p)) q) x)
        | inr l ↦ inr (record { itself = rw eo l.itself; below = λ i p. rw eo (l.below i p) })
      ]

  -- no mark is needed if there is none below
  pub unmarked_folder : (f o : Subtree T) (fs os : List (Subtree T)) (ks : List (Subtree Mark)) → ks ≡ []
      → f.below ≡ spread fs → o.below ≡ spread os → (m f.value).cut ≡ false → AreClashes m fs os ks
      → Clash (marked m (whole f)) (marked m (whole o)) (λ q. None)
  unmarked_folder f o fs os ks e ef eo d w =
      clash_without (marked m (whole f)) (marked m (whole o))
      (at_path (whole (record { name = []; value = record { cut = false; opaque = false }; below = [] }))) none
      (folders f o fs os [] [] (record { cut = false; opaque = false }) ef eo d refl refl (subst (λ k. AreClashes m fs os k) e w))
    where
      none : (path : Path) → cut_by (at_path (whole (record { name = []; value = record { cut = false; opaque = false }; below = [] })))
          path ≡ false
      none [] = refl
      none (n ∷ path) = nothing_cut path

-- the marks of a branch that was found; none if none was
abbrev pub marked_in : {T : Type 0} → (T → Mark) → Option (Subtree T) → Path → Option Mark
marked_in m o q = option_map m (through o q)

-- the files of a directory, each with its mark or none
pub data Clashing {T : Type 0} (m : T → Mark) (os : List (Subtree T)) : List (Subtree T) → List (Subtree Mark) → Type 0 where
  none_left : Clashing m os [] []
  apart : (f : Subtree T) (fs : List (Subtree T)) (ks : List (Subtree Mark))
      → Clash (marked m (whole f)) (marked_in m (named f.name os)) (λ q. None)
      → Clashing m os fs ks → Clashing m os (f ∷ fs) ks
  together : (f : Subtree T) (fs : List (Subtree T)) (k : Subtree Mark) (ks : List (Subtree Mark))
      → k.name ≡ f.name → IsRising k → Clash (marked m (whole f)) (marked_in m (named f.name os)) (at_path (whole k))
      → Clashing m os fs ks → Clashing m os (f ∷ fs) (k ∷ ks)

module _ {T : Type 0} (m : T → Mark) (os : List (Subtree T)) where
  above : {fs : List (Subtree T)} {ks : List (Subtree Mark)} → Clashing m os fs ks → (n : List ℕ)
      → AllByRecursion (λ t. name_cmp n t.name ≡ Less) fs → AllByRecursion (λ t. name_cmp n t.name ≡ Less) ks
  above none_left n a = tt
  above (apart f fs ks w c) n a = above c n a.1
  above (together f fs k ks e r w c) n a = (rw e a.0, above c n a.1)

  rise : {fs : List (Subtree T)} {ks : List (Subtree Mark)} → Clashing m os fs ks → NamesRise fs → NamesRise ks
  rise none_left r = tt
  rise (apart f fs ks w c) r = rise c r.1
  rise (together f fs k ks e i w c) r = (rw e (above c f.name r.0), rise c r.1)

  each : {fs : List (Subtree T)} {ks : List (Subtree Mark)} → Clashing m os fs ks → AllByRecursion IsRising ks
  each none_left = tt
  each (apart f fs ks w c) = each c
  each (together f fs k ks e i w c) = (i, each c)

  found : {fs : List (Subtree T)} {ks : List (Subtree Mark)} → Clashing m os fs ks → NamesRise fs → (n : List ℕ)
      → Clash (marked_in m (named n fs)) (marked_in m (named n os)) (through (named n ks))
  found none_left r n = no_files (marked_in m (named n os))
  found (apart f fs ks w c) r n = elim (same_or_not f.name n) [
    | inl x ↦ (
        let none : named n ks ≡ None = named_below n ks (subst (λ i. AllByRecursion (λ t. name_cmp i t.name ≡ Less) ks) x.0
        (above c f.name r.0)) in
        rw (x.1, none) (subst (λ i. Clash (marked m (whole f)) (marked_in m (named i os)) (λ q. None)) x.0 w))
    | inr x ↦ rw x.1 (found c r.1 n)
  ]
  found (together f fs k ks e i w c) r n = elim (same_or_not f.name n) [
    | inl x ↦ rw (e, x.1) (subst (λ i. Clash (marked m (whole f)) (marked_in m (named i os)) (at_path (whole k))) x.0 w)
    | inr x ↦ rw (e, x.1) (found c r.1 n)
  ]

  -- the marks of one file after another are those of all clashes of two directories
  pub are_clashes : {fs : List (Subtree T)} {ks : List (Subtree Mark)} → Clashing m os fs ks → NamesRise fs → NamesRise os
      → AreClashes m fs os ks
  are_clashes {fs} {ks} c r s = record {
    forest = record { names = rise c r; each = each c };
    at = λ n. clash_same (marked_in m (named n fs)) (λ q. marked m (spread fs) (n ∷ q)) (marked_in m (named n os))
        (λ q. marked m (spread os) (n ∷ q)) (through (named n ks)) (λ q. at_path (spread ks) (n ∷ q))
        (λ q. ap (λ x. option_map m x) (sym (at_spread fs r n q))) (λ q. ap (λ x. option_map m x) (sym (at_spread os s n q)))
        (λ q. sym (at_spread ks (rise c r) n q)) (found c r n);
  }

-- files are traversed up to left, with the others up to rest
pub record IsClashing {T : Type 0} (m : T → Mark) (files left others rest : List (Subtree T)) (marks : List (Subtree Mark)) : Type 0 where
  pub clashing : (more : List (Subtree Mark)) → Clashing m others left more → Clashing m others files (marks ++ more)
  pub names : NamesRise left
  pub rest_names : NamesRise rest
  pub same : AllByRecursion (λ f. named f.name rest ≡ named f.name others) left
  pub smaller : length (spread left) ≤ length (spread files)

-- of what is left, f is the first branch
module _ {T : Type 0} (m : T → Mark) (files later others rest rest' : List (Subtree T)) (marks : List (Subtree Mark)) (f : Subtree T)
    (inv : IsClashing m files (f ∷ later) others rest marks) (from : IsFrom f.name rest rest') where
  -- passing over others leaves the one with the file's name, if there is one
  pub at_other : named f.name rest' ≡ named f.name others
  at_other = from.same f.name (not_below_itself f.name) ∙ inv.same.0

  on : (marks' : List (Subtree Mark)) → ((more : List (Subtree Mark)) → Clashing m others later more
      → Clashing m others files (marks' ++ more))
      → IsClashing m files later others rest' marks'
  on marks' c = record {
    clashing = c;
    names = inv.names.1;
    rest_names = from.names;
    same = still_same f.name rest rest' others from later inv.names.0 inv.same.1;
    smaller = omega (arith, grown f later, inv.smaller);
  }

  -- if no other branch has the file's name, no mark is added
  pub nothing_there : named f.name rest' ≡ None → IsClashing m files later others rest' marks
  nothing_there n = on marks (λ more c. inv.clashing more (apart f later more (rw (sym at_other ∙ n) (no_others (marked m (whole f)))) c))

  -- if the branch of that name does not clash, no mark is added
  pub no_clash : (o : Subtree T) → named f.name rest' ≡ Some o → Clash (marked m (whole f)) (marked m (whole o)) (λ q. None)
      → IsClashing m files later others rest' marks
  no_clash o n w = on marks (λ more c. inv.clashing more (apart f later more (rw (sym at_other ∙ n) w) c))

  -- if the two clash, their mark is added
  pub one_clash : (o : Subtree T) (k : Subtree Mark) → named f.name rest' ≡ Some o → IsClashMark m f o k
      → IsClashing m files later others rest' (marks ++ k ∷ [])
  one_clash o k n w = on (marks ++ k ∷ []) (λ more c. rw append_assoc
      (inv.clashing (k ∷ more) (together f later k more w.name w.rising (rw (sym at_other ∙ n) w.at) c)))

  -- there is less to traverse below one of the files than in all of them
  pub deeper_measure : 2 * length f.below + 1 < 2 * length (spread files)
  deeper_measure = omega (arith, grown f later, inv.smaller)

-- with no file left, the marks are those of all clashes of the two directories
pub clashing_ended : {T : Type 0} (m : T → Mark) (files left others rest : List (Subtree T)) (marks : List (Subtree Mark))
    → IsClashing m files left others rest marks → left ≡ [] → NamesRise files → NamesRise others → AreClashes m files others marks
clashing_ended m files left others rest marks inv e r s =
    are_clashes m others (subst (Clashing m others files) (append-nil marks) (inv.clashing [] (rw e none_left))) r s

not_there : (o : Option Entry) → option_map mark_of o ≡ None → o ≡ None
not_there None e = refl
not_there (Some x) e = absurd (cc)

-- laid on anything, an entry is what is there
pub upper_wins : (o : Option Entry) (x : Entry) → laid_at upper o (Some x) ≡ Some x
upper_wins None x = refl
upper_wins (Some y) x = refl

-- the upper tree's marks, and then those of the paths at which it has a file over something, leave of the lower one what the upper one does
-- not remove, as far as it does not cover it itself
module _ (el eh one two eo : Path → Option Entry) (mh hidden : Path → Option Mark)
    (first : (q : Path) → one q ≡ unless (cut_by mh q) (el q)) (second : (q : Path) → two q ≡ unless (cut_by hidden q) (one q))
    (over : (q : Path) → eo q ≡ laid_at upper (two q) (eh q)) (c : Clash (λ q. option_map mark_of (eh q)) (λ q. option_map mark_of (el q))
    hidden) where
  abbrev Goal : Path → Type 0
  Goal path = eo path ≡ laid_at upper (unless (removed_by mh eh path) (el path)) (eh path)

  high : (path : Path) (x : Entry) → eh path ≡ Some x → Goal path
  high path x e = over path ∙ ap (laid_at upper (two path)) e ∙ upper_wins (two path) x
      ∙ sym (ap (laid_at upper (unless (removed_by mh eh path) (el path))) e ∙ upper_wins (unless (removed_by mh eh path) (el path)) x)

  low : (path : Path) → eh path ≡ None → (a b d : Bool) → cut_by mh path ≡ a → cut_by hidden path ≡ b → covered_by eh path ≡ d
      → two path ≡ unless (a || d) (el path)
  low path e true b d p q r = second path ∙ ap (λ x. unless x (one path)) q ∙ ap (unless b) (first path ∙ ap (λ x. unless x (el path)) p)
      ∙ unless_none b
  low path e false true true p q r = second path ∙ ap (λ x. unless x (one path)) q
  low path e false true false p q r = absurd (let x = sym r ∙ c.sound path q in cc)
  low path e false false false p q r = second path ∙ ap (λ x. unless x (one path)) q ∙ first path ∙ ap (λ x. unless x (el path)) p
  low path e false false true p q r =
      second path ∙ ap (λ x. unless x (one path)) q ∙ first path ∙ ap (λ x. unless x (el path)) p ∙ gone (covering_file eh path r)
    where
      gone : ((s : Path) × (t : Path) × (path ≡ s ++ t) × IsFile (eh s)) → el path ≡ None
      gone (s, [], is, file) = absurd (let x : eh s ≡ None = subst (λ y. eh y ≡ None) (is ∙ append-nil s) e in let y = rw x at file in cc)
      gone (s, n ∷ t, is, file) = elim (c.whole s file) [
        | inl x ↦ absurd (let y = subst (λ z. cut_by hidden z ≡ true) (sym is) (cut_extends hidden s (n ∷ t) x) in cc)
        | inr l ↦ ap el is ∙ not_there (el (s ++ n ∷ t)) (l.below n t)
      ]

  -- the tree laid on another has the upper entry of a path, or a lower one that is not removed
  pub what_is_left : (path : Path) → Goal path
  what_is_left path = by (eh path) refl
    where
      by : (o : Option Entry) → eh path ≡ o → Goal path
      by None e = over path ∙ ap (laid_at upper (two path)) e
          ∙ low path e (cut_by mh path) (cut_by hidden path) (covered_by eh path) refl refl refl
          ∙ sym (ap (laid_at upper (unless (removed_by mh eh path) (el path))) e)
      by (Some x) e = high path x e

-- both trees together remove what each of them removes
module _ (el eh eo : Path → Option Entry) (ml mh replaced mo : Path → Option Mark)
    (over : (q : Path) → eo q ≡ laid_at upper (unless (removed_by mh eh q) (el q)) (eh q))
    (all : (q : Path) → cut_by mo q ≡ (cut_by ml q || (cut_by replaced q || cut_by mh q))) (c : Clash (λ q. option_map mark_of (el q))
    (λ q. option_map mark_of (eh q)) replaced) where
  upper_stays : (q : Path) (x : Entry) → eh q ≡ Some x → eo q ≡ Some x
  upper_stays q x e = over q ∙ ap (laid_at upper (unless (removed_by mh eh q) (el q))) e
      ∙ upper_wins (unless (removed_by mh eh q) (el q)) x

  lower_stays : (q : Path) (b : Bool) → eh q ≡ None → removed_by mh eh q ≡ b → eo q ≡ unless b (el q)
  lower_stays q b e r = over q ∙ ap (laid_at upper (unless (removed_by mh eh q) (el q))) e ∙ ap (λ x. unless x (el q)) r

  file_here : (q : Path) (o : Option Entry) → o ≡ eo q → IsFile o → IsFile (eo q)
  file_here q o e x = subst IsFile e x

  by_marks : (path : Path) → (cut_by ml path || (cut_by replaced path || cut_by mh path)) ≡ true → removed_by mo eo path ≡ true
  by_marks path e = or_left (cut_by mo path) (covered_by eo path) (all path ∙ e)

  by_file : (path q r : Path) → path ≡ q ++ r → IsFile (eo q) → removed_by mo eo path ≡ true
  by_file path q r e x = or_right (cut_by mo path) (covered_by eo path) (file_covers eo path q r e x)

  of_high : (path : Path) → removed_by mh eh path ≡ true → removed_by mo eo path ≡ true
  of_high path e = elim (or_cases (cut_by mh path) (covered_by eh path) e) [
    | inl x ↦ by_marks path (or_right (cut_by ml path) _ (or_right (cut_by replaced path) _ x))
    | inr x ↦ (let w = covering_file eh path x in by_file path w.0 w.1 w.2 (kept w.0 (eh w.0) refl w.3))
  ]
    where
      kept : (q : Path) (o : Option Entry) → eh q ≡ o → IsFile (eh q) → IsFile (eo q)
      kept q None e x = absurd (let y = rw e at x in cc)
      kept q (Some y) e x = file_here q (Some y) (sym (upper_stays q y e)) (rw e at x)

  of_low : (path : Path) → removed_by ml el path ≡ true → removed_by mo eo path ≡ true
  of_low path e = elim (or_cases (cut_by ml path) (covered_by el path) e) [
    | inl x ↦ by_marks path (or_left (cut_by ml path) _ x)
    | inr x ↦ (let w = covering_file el path x in file path w.0 w.1 w.2 w.3)
  ]
    where
      kept : (path q r : Path) (o : Option Entry) (b : Bool) → path ≡ q ++ r → eh q ≡ o → removed_by mh eh q ≡ b
          → is_uncut (option_map mark_of o) ≡ false → IsFile (el q) → removed_by mo eo path ≡ true
      kept path q r (Some y) b i e f l x = by_file path q r i (file_here q (Some y) (sym (upper_stays q y e))
          (not-false (not (is_directory y.kind)) l))
      kept path q r None true i e f l x = removed_extends mo eo path q r i (of_high q f)
      kept path q r None false i e f l x = by_file path q r i (file_here q (el q) (sym (lower_stays q false e f)) x)

      file : (path q r : Path) → path ≡ q ++ r → IsFile (el q) → removed_by mo eo path ≡ true
      file path q r i x = elim (c.whole q x) [
        | inl y ↦ by_marks path (or_right (cut_by ml path) _ (or_left (cut_by replaced path) _
            (subst (λ p. cut_by replaced p ≡ true) (sym i) (cut_extends replaced q r y))))
        | inr l ↦ kept path q r (eh q) (removed_by mh eh q) i refl refl l.itself x
      ]

  of_either : (path : Path) → removed_by mo eo path ≡ true → (removed_by ml el path || removed_by mh eh path) ≡ true
  of_either path e = elim (or_cases (cut_by mo path) (covered_by eo path) e) [
    | inl x ↦ elim (or_cases (cut_by ml path) _ (sym (all path) ∙ x)) [
      | inl y ↦ or_left (removed_by ml el path) _ (or_left (cut_by ml path) _ y)
      | inr y ↦ elim (or_cases (cut_by replaced path) _ y) [
        | inl z ↦ or_left (removed_by ml el path) _ (or_right (cut_by ml path) _ (c.sound path z))
        | inr z ↦ or_right (removed_by ml el path) _ (or_left (cut_by mh path) _ z)
      ]
    ]
    | inr x ↦ (let w = covering_file eo path x in from path w.0 w.1 w.2 w.3 (eh w.0) (removed_by mh eh w.0) refl refl)
  ]
    where
      from : (path q r : Path) → path ≡ q ++ r → IsFile (eo q) → (o : Option Entry) (b : Bool) → eh q ≡ o → removed_by mh eh q ≡ b
          → (removed_by ml el path || removed_by mh eh path) ≡ true
      from path q r i x (Some y) b e f = or_right (removed_by ml el path) _ (or_right (cut_by mh path) _
          (file_covers eh path q r i (subst IsFile (upper_stays q y e ∙ sym e) x)))
      from path q r i x None true e f = absurd (let y : IsFile None = subst IsFile (lower_stays q true e f) x in cc)
      from path q r i x None false e f = or_left (removed_by ml el path) _ (or_right (cut_by ml path) _
          (file_covers el path q r i (subst IsFile (lower_stays q false e f) x)))

  -- a path is removed exactly if one of the two trees removes it
  pub what_both_remove : (path : Path) → removed_by mo eo path ≡ (removed_by ml el path || removed_by mh eh path)
  what_both_remove path = both_ways (removed_by mo eo path) (removed_by ml el path || removed_by mh eh path) (of_either path)
      (λ e. elim (or_cases (removed_by ml el path) _ e) [ inl x ↦ of_low path x | inr x ↦ of_high path x ])
