-- One tree laid on another is the tree of both runs. The main lemma is tree_of_both: the relation of a tree laid on another (Lays) gives
-- the entries and the cuts of both runs. lays_of shows it for the branches that are made, with the marks of clashes.
use Rattle.std.proofs.Common.{◌≡◌, ◌∙◌, sym, ap, subst, ℕ, zero, suc, ◌+◌, ◌↔◌, inl, inr, List, [], ◌∷◌, ◌++◌, length, refl, arith, Option, Some, None, Bool, true, false, ◌||◌, ◌&&◌, IsTrue, IsSomeAnd}
use Rattle.std.specs.Prelude.{slice_get, Result, Ok, Err, IfOk}
use Rattle.std.proofs.lemmas.Bool.{or_cases, or_right}
use Rattle.romfs_format.specs.declared.head.Kind.TheVariants.{Directory}
use Rattle.stack_model.specs.Stack.{Path, IsPlain, Shows, IsTop, IsFree, IsCut}
use Rattle.stack_model.proofs.Joined.{shows_joined, cuts_joined, free_is}
use Rattle.layer_paths.specs.Rows.{Subtree, whole, at_path}
use Rattle.layer_paths.specs.Laying.{laid_at, IsLaid}
use Rattle.layer_paths.specs.declared.entries.Entry.{Entry}
use Rattle.layer_paths.specs.declared.entries.Mark.{Mark}
use Rattle.layer_paths.specs.Marks.{cuts_itself, cuts_below, cut_by, mark_of, is_plain}
use Rattle.layer_paths.specs.Trees.{TreeRows, entry_at, removes, cuts_at, IsEntryOf, IsTreeOf}
use Rattle.layer_tree.specs.Laying.{unless, IsKept, AreRootClashes, Lays}
use Rattle.layer_paths.specs.Marks.{upper, united}
use Rattle.layer_tree.proofs.Plain.{plain_is}
use Rattle.layer_tree.proofs.Clashing.{upper_wins, what_is_left, what_both_remove}

or_four : (a b c d : Bool) → ((a || b) || (c || d)) ≡ ((a || c) || (b || d))
or_four true b c d = refl
or_four false true true d = refl
or_four false true false d = refl
or_four false false c d = refl

or_comm : (a b : Bool) → (a || b) ≡ (b || a)
or_comm true true = refl
or_comm true false = refl
or_comm false true = refl
or_comm false false = refl

itself_laid : (l h : Option Mark) → cuts_itself (laid_at united l h) ≡ (cuts_itself l || cuts_itself h)
itself_laid l None = or_comm false (cuts_itself l)
itself_laid None (Some h) = refl
itself_laid (Some l) (Some h) = refl

below_laid : (l h : Option Mark) → cuts_below (laid_at united l h) ≡ (cuts_below l || cuts_below h)
below_laid l None = or_comm false (cuts_below l)
below_laid None (Some h) = refl
below_laid (Some l) (Some h) = or_four l.cut h.cut l.opaque h.opaque

-- united marks cut what either cut
pub cut_united : (f g h : List (List ℕ) → Option Mark) → ((q : Path) → f q ≡ laid_at united (g q) (h q))
    → (path : Path) → cut_by f path ≡ (cut_by g path || cut_by h path)
cut_united f g h e [] = rw (e []) (itself_laid (g []) (h []))
cut_united f g h e (n ∷ path) =
    rw (e [], below_laid (g []) (h []), cut_united (λ q. f (n ∷ q)) (λ q. g (n ∷ q)) (λ q. h (n ∷ q)) (λ q. e (n ∷ q)) path)
    (or_four (cuts_below (g [])) (cuts_below (h [])) (cut_by (λ q. g (n ∷ q)) path) (cut_by (λ q. h (n ∷ q)) path))

and_or : (p a b : Bool) → (p && (a || b)) ≡ ((p && a) || (p && b))
and_or true a b = refl
and_or false a b = refl

get_low : (ls hs : List (List ℕ)) (i : ℕ) (a : List ℕ) → slice_get ls i ≡ Some a → slice_get (ls ++ hs) i ≡ Some a
get_low [] hs i a e = absurd (cc)
get_low (l ∷ ls) hs zero a e = e
get_low (l ∷ ls) hs (suc i) a e = get_low ls hs i a e

get_high : (ls hs : List (List ℕ)) (i j : ℕ) (a : List ℕ) → i ≡ length ls + j → slice_get hs j ≡ Some a → slice_get (ls ++ hs) i ≡ Some a
get_high [] hs i j a e g = subst (λ n. slice_get hs n ≡ Some a) (omega arith) g
get_high (l ∷ ls) hs zero j a e g = absurd (omega arith)
get_high (l ∷ ls) hs (suc i) j a e g = get_high ls hs i j a (omega arith) g

-- if something holds for an existing entry, there is an entry for which it holds
pub some_and : (P : Entry → Type 0) (o : Option Entry) → IsSomeAnd o P → (e : Entry) × (o ≡ Some e) × P e
some_and P None p = absurd p
some_and P (Some e) p = (e, refl, p)

and_some : (P : Entry → Type 0) (o : Option Entry) (e : Entry) → o ≡ Some e → P e → IsSomeAnd o P
and_some P o e f p = subst (λ x. IsSomeAnd x P) (sym f) p

-- a run leaves a plain path free if it neither shows nor cuts it
free_if : (layers : List (List ℕ)) (path : Path) → IsPlain path → ((i h : ℕ) → ¬ Shows layers path i h) → ¬ IsCut layers path
    → IsFree layers path
free_if [] path p s c = tt
free_if (a ∷ above) path p s c =
    let up : IsFree above path = free_if above path p (λ i h t. s (suc i) h (t.0, t.1)) (λ x. c (inr x)) in
    ((λ x. s zero x.0 (p, (x.1, up)), λ x. c (inl x)), up)

-- a run that leaves a path free shows it in no layer
pub top_in : (layers : List (List ℕ)) (path : Path) (i h : ℕ) → IsTop layers path i h → IsFree layers path → ⊥
top_in [] path i h t f = t
top_in (a ∷ above) path zero h t f = f.0.0 (h, t.0)
top_in (a ∷ above) path (suc i) h t f = top_in above path i h t f.1

module _ (first : ℕ) (ls hs : List (List ℕ)) (low high out : TreeRows) (l : IsTreeOf first ls low)
    (h : IsTreeOf (first + length ls) hs high) (lays : Lays low high out) where
  entry_low : (i k : ℕ) (e : Entry) → IsEntryOf first ls i k e → IsEntryOf first (ls ++ hs) i k e
  entry_low i k e w = record { layer = w.layer; end = (w.end.0, get_low ls hs i w.end.0 w.end.1, w.end.2, w.end.3) }

  entry_high : (i j k : ℕ) (e : Entry) → i ≡ length ls + j → IsEntryOf (first + length ls) hs j k e → IsEntryOf first (ls ++ hs) i k e
  entry_high i j k e d w = record {
    layer = omega (arith, w.layer);
    end = (
      w.end.0,
      get_high ls hs i j w.end.0 d w.end.1,
      w.end.2,
      w.end.3,
    );
  }

  uncut : (path : Path) → IsPlain path → ¬ IsCut hs path → (b : Bool) → removes high path ≡ b → b ≡ false
  uncut path p c false e = refl
  uncut path p c true e = absurd (c ((h.cuts path).0 (rw ((plain_is path).1 p, e) refl)))

  unshown : (path : Path) → IsFree hs path → (o : Option Entry) → entry_at high path ≡ o → o ≡ None
  unshown path f None e = refl
  unshown path f (Some x) e = let w = h.only path x e in absurd (top_in hs path w.0 w.1 w.2.1 f)

  shows : (path : Path) (i k : ℕ) → Shows (ls ++ hs) path i k → IsSomeAnd (entry_at out path) (λ e. IsEntryOf first (ls ++ hs) i k e)
  shows path i k s = elim ((shows_joined ls hs path i k).0 s) [
    | inl t ↦ (
        let w = some_and (IsEntryOf (first + length ls) hs t.0 k) (entry_at high path) (h.shown path t.0 k t.2) in
        from_high path i t.0 k w.0 t.1 w.1 w.2)
    | inr t ↦ (
        let w = some_and (IsEntryOf first ls i k) (entry_at low path) (l.shown path i k t.0) in
        from_low path i k w.0 t.0.0 t.1 w.1 w.2)
  ]
    where
      from_high : (path : Path) (i j k : ℕ) (e : Entry) → i ≡ length ls + j → entry_at high path ≡ Some e
          → IsEntryOf (first + length ls) hs j k e
          → IsSomeAnd (entry_at out path) (λ e. IsEntryOf first (ls ++ hs) i k e)
      from_high path i j k e d f w =
          let g : entry_at out path ≡ Some e = lays.entries path
          ∙ ap (laid_at upper (unless (removes high path) (entry_at low path))) f
          ∙ upper_wins (unless (removes high path) (entry_at low path)) e in
          and_some (IsEntryOf first (ls ++ hs) i k) (entry_at out path) e g (entry_high i j k e d w)

      from_low : (path : Path) (i k : ℕ) (e : Entry) → IsPlain path → IsFree hs path
          → entry_at low path ≡ Some e → IsEntryOf first ls i k e
          → IsSomeAnd (entry_at out path) (λ e. IsEntryOf first (ls ++ hs) i k e)
      from_low path i k e p free f w =
          let c = uncut path p ((free_is hs path).0 free).1 (removes high path) refl in
          let n = unshown path free (entry_at high path) refl in
          let g : entry_at out path ≡ Some e = lays.entries path
          ∙ ap (laid_at upper (unless (removes high path) (entry_at low path))) n
          ∙ ap (λ b. unless b (entry_at low path)) c ∙ f in
          and_some (IsEntryOf first (ls ++ hs) i k) (entry_at out path) e g (entry_low i k e w)

  decided : (path : Path) (e : Entry) (o p : Option Entry) (b : Bool) → entry_at high path ≡ o
      → entry_at low path ≡ p → removes high path ≡ b → laid_at upper (unless b p) o ≡ Some e
      → (i k : ℕ) × Shows (ls ++ hs) path i k × IsEntryOf first (ls ++ hs) i k e
  decided path e (Some x) p b f g c r =
      let both : Some x ≡ Some e = sym (upper_wins (unless b p) x) ∙ r in
      let same : x ≡ e = cc in
      let w = h.only path x f in (
        length ls + w.0,
        w.1,
        (shows_joined ls hs path (length ls + w.0) w.1).1 (inl (w.0, refl, w.2)),
        subst
            (λ y. IsEntryOf first (ls ++ hs) (length ls + w.0) w.1 y) same
            (entry_high (length ls + w.0) w.0 w.1 x refl w.3),
      )
  decided path e None p true f g c r = absurd (cc)
  decided path e None p false f g c r =
      let w = l.only path e (g ∙ r) in
      let plain : IsPlain path = w.2.0 in
      let clear : ¬ IsCut hs path = λ x. (let t = (h.cuts path).1 x in
      let u : (is_plain path && removes high path) ≡ true = t in
      let v = rw (c, (plain_is path).1 plain) at u in absurd (cc)) in
      let free : IsFree hs path = free_if hs path plain
      (λ i k s. (let y = some_and (IsEntryOf (first + length ls) hs i k) (entry_at high path)
      (h.shown path i k s) in let z = y.1 in absurd (cc))) clear in
      (w.0, w.1, (shows_joined ls hs path w.0 w.1).1 (inr (w.2, free)), entry_low w.0 w.1 e w.3)

  cuts_both : (path : Path) → cuts_at out path ≡ (cuts_at low path || cuts_at high path)
  cuts_both path = ap (λ b. is_plain path && b) (lays.removed path) ∙ and_or (is_plain path) (removes low path) (removes high path)

  cuts_exactly : (path : Path) → IsTrue (cuts_at out path) ↔ IsCut (ls ++ hs) path
  cuts_exactly path = (
    λ t. elim (or_cases (cuts_at low path) (cuts_at high path) (sym (cuts_both path) ∙ t)) [
      | inl x ↦ (cuts_joined ls hs path).1 (inl ((l.cuts path).0 x))
      | inr x ↦ (cuts_joined ls hs path).1 (inr ((h.cuts path).0 x))
    ],
    λ c. elim ((cuts_joined ls hs path).0 c) [
      | inl x ↦ cuts_both path ∙ rw ((l.cuts path).1 x) refl
      | inr x ↦ cuts_both path ∙ rw ((h.cuts path).1 x) (or_right (cuts_at low path) true refl)
    ],
  )

  -- the tree of a run, laid on that of the run below, is the tree of both
  pub tree_of_both : IsTreeOf first (ls ++ hs) out
  tree_of_both = record {
    rising = lays.rising;
    shown = shows;
    only = λ path e f. decided path e (entry_at high path) (entry_at low path) (removes high path) refl refl refl (sym (lays.entries path)
        ∙ f);
    cuts = cuts_exactly;
  }

-- united marks of three trees cut what any of them cuts
three_united : (lm hm rm am om : Subtree Mark) → IsLaid united rm hm am → IsLaid united lm am om → (path : Path)
    → cut_by (at_path (whole om)) path
    ≡ (cut_by (at_path (whole lm)) path || (cut_by (at_path (whole rm)) path || cut_by (at_path (whole hm)) path))
three_united lm hm rm am om a m path =
    cut_united (at_path (whole om)) (at_path (whole lm)) (at_path (whole am)) m.at path
    ∙ ap (λ b. cut_by (at_path (whole lm)) path || b)
    (cut_united (at_path (whole am)) (at_path (whole rm)) (at_path (whole hm)) a.at path)

-- entries that cover what is kept, with united marks, are a tree laid on another
pub lays_of : (le he one two oe : Subtree Entry) (lm hm hidden replaced am om : Subtree Mark)
    → AreRootClashes mark_of he le hidden → AreRootClashes mark_of le he replaced → IsKept le hm one → IsKept one hidden two
    → IsLaid upper two he oe → IsLaid united replaced hm am → IsLaid united lm am om
    → Lays (record { entries = whole le; marks = whole lm }) (record { entries = whole he; marks = whole hm })
    (record { entries = whole oe; marks = whole om })
lays_of le he one two oe lm hm hidden replaced am om h r k l e a m =
    let over = what_is_left (at_path (whole le)) (at_path (whole he)) (at_path (whole one)) (at_path (whole two))
    (at_path (whole oe)) (at_path (whole hm)) (at_path (whole hidden)) k.at l.at e.at h.at in
    record {
      rising = e.rising.rises;
      entries = over;
      removed = what_both_remove (at_path (whole le)) (at_path (whole he)) (at_path (whole oe)) (at_path (whole lm))
          (at_path (whole hm)) (at_path (whole replaced)) (at_path (whole om)) over (three_united lm hm replaced am om a m) r.at;
    }

-- no united mark cuts the root if neither does
pub root_uncut : (lm hm om : Subtree Mark) → IsLaid united lm hm om → lm.value.cut ≡ false → hm.value.cut ≡ false → om.value.cut ≡ false
root_uncut lm hm om m e f =
    let s : Some om.value ≡ Some (united lm.value hm.value) = m.at [] in
    let v : om.value ≡ united lm.value hm.value = cc in
    ap (λ (x : Mark). x.cut) v ∙ rw (e, f) refl

-- the root's entry is the upper tree's
pub root_folder : (two he oe : Subtree Entry) → IsLaid upper two he oe → he.value.kind ≡ Directory → oe.value.kind ≡ Directory
root_folder two he oe m k =
    let s : Some oe.value ≡ Some he.value = m.at [] in
    let v : oe.value ≡ he.value = cc in
    ap (λ (x : Entry). x.kind) v ∙ k

-- the same of a result, if it is one
pub tree_if_ok : {E : Type 0} (first : ℕ) (ls hs : List (List ℕ)) (low high : TreeRows) (r : Result TreeRows E)
    → IfOk r (λ t. Lays low high t) → IsTreeOf first ls low → IsTreeOf (first + length ls) hs high
    → IfOk r (λ t. IsTreeOf first (ls ++ hs) t)
tree_if_ok first ls hs low high (Ok t) lays l h = tree_of_both first ls hs low high t l h lays
tree_if_ok first ls hs low high (Err e) lays l h = tt
