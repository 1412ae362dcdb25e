-- The entries of a tree in the order of their paths are the listing of its run (`is_listing`): they rise, an entry at a path is among them
-- (`among_at`) and each of them is at its path (`at_among`). Hard links end at one header (`one_end`), so each is at the place that is
-- shown. Its kind is that of the header there (`kind_read`).
use Rattle.std.proofs.Common.{◌≡◌, ◌∙◌, sym, ap, subst, ℕ, inl, inr, List, [], ◌∷◌, map, refl, arith, Option, Some, None}
use Rattle.std.specs.Prelude.{IsSomeAnd}
use Rattle.std.specs.List.{AllByRecursion}
use Rattle.std.specs.Cmp.Lexicographic.{slice_cmp}
use Rattle.std.specs.Ordering.{ordering_reverse}
use Rattle.std.specs.declared.cmp.Ordering.TheVariants.{Less, Greater}
use Rattle.std.proofs.lemmas.Cmp.{nat_list_cmp_total, lists_total}
use Rattle.romfs_format.specs.Fields.{kind}
use Rattle.romfs_format.specs.Links.{IsFinal, stays, follows}
use Rattle.stack_model.specs.Stack.{Path, Shows}
use Rattle.stack_model.specs.Listing.{Entry as Listed, path_cmp, Rises, IsAmong, IsShown, IsFinalIn, IsListing}
use Rattle.layer_paths.specs.Rows.{at_path, PathsRise, name_cmp}
use Rattle.layer_paths.proofs.Paths.{same_path_or_not}
use Rattle.layer_paths.specs.declared.entries.Entry.{Entry}
use Rattle.layer_paths.specs.Trees.{TreeRows, IsTreeOf, IsReadIn, listed, listing}

not_before_itself : (p : Path) → path_cmp p p ≡ Less → ⊥
not_before_itself p e = let s = (lists_total nat_list_cmp_total).antisymm p p in let r : Less ≡ Greater = sym e ∙ s
    ∙ ap ordering_reverse e in cc

-- hard links end at one header
pub one_end : (a : List ℕ) (h e f : ℕ) → IsFinal a h e → IsFinal a h f → e ≡ f
one_end a h e f (stays n) (stays m) = refl
one_end a h e f (stays n) (follows l r) = absurd (n l)
one_end a h e f (follows l r) (stays m) = absurd (m l)
one_end a h e f (follows l r) (follows m s) = one_end a _ e f r s

-- an entry has the kind of the header at its place
pub kind_read : (a : List ℕ) (entry : Entry) → IsReadIn a entry → entry.kind ≡ kind a entry.place.header
kind_read a entry r = ap (λ (e : Entry). e.kind) r

rises_listed : (rows : List (Path × Entry)) → PathsRise rows → Rises (map listed rows)
rises_listed [] r = tt
rises_listed (x ∷ rows) r = (after x.0 rows r.0, rises_listed rows r.1)
  where
    after : (p : Path) (rows : List (Path × Entry))
        → AllByRecursion (λ y. slice_cmp name_cmp p y.0 ≡ Less) rows
        → AllByRecursion (λ f. path_cmp p f.path ≡ Less) (map listed rows)
    after p [] a = tt
    after p (y ∷ rows) a = (a.0, after p rows a.1)

-- what is at a path is among the listed ones
among_at : (rows : List (Path × Entry)) (path : Path) (e : Entry) → at_path rows path ≡ Some e
    → IsAmong (listed (path, e)) (map listed rows)
among_at [] path e f = absurd (cc)
among_at (x ∷ rows) path e f = elim (same_path_or_not x.0 path) [
  | inl s ↦ let g : Some x.1 ≡ Some e = rw s.1 at f in let v : x.1 ≡ e = cc in
      inl (ap (λ p. listed (p, e)) (sym s.0) ∙ ap (λ w. listed (x.0, w)) (sym v))
  | inr s ↦ inr (among_at rows path e (rw s.1 at f))
]

-- in rising rows, each listed one is what is at its path
at_among : (rows : List (Path × Entry)) → PathsRise rows → (l : Listed) → IsAmong l (map listed rows)
    → (e : Entry) × (at_path rows l.path ≡ Some e) × (l ≡ listed (l.path, e))
at_among [] r l m = elim m [ ]
at_among (x ∷ rows) r l (inl i) = (
  x.1,
  subst (λ p. at_path (x ∷ rows) p ≡ Some x.1)
      (sym (ap (λ (k : Listed). k.path) i)) (first x.0),
  i
      ∙ ap (λ p. listed (p, x.1)) (sym (ap (λ (k : Listed). k.path) i)),
)
  where
    first : (p : Path) → at_path ((p, x.1) ∷ rows) p ≡ Some x.1
    first p = elim (same_path_or_not p p) [ inl s ↦ rw s.1 refl | inr s ↦ absurd (s.0 refl) ]
at_among (x ∷ rows) r l (inr m) =
    let later = at_among rows r.1 l m in
    let before : path_cmp x.0 l.path ≡ Less = above rows r.0 m in (
      later.0,
      elim (same_path_or_not x.0 l.path) [
        | inl s ↦ absurd (not_before_itself x.0 (subst (λ p. path_cmp x.0 p ≡ Less) (sym s.0) before))
        | inr s ↦ rw s.1 later.1
      ],
      later.2,
    )
  where
    above : (rows : List (Path × Entry)) → AllByRecursion (λ y. slice_cmp name_cmp x.0 y.0 ≡ Less) rows
        → IsAmong l (map listed rows) → path_cmp x.0 l.path ≡ Less
    above [] a m = elim m [ ]
    above (y ∷ rows) a (inl i) = subst (λ (k : Listed). path_cmp x.0 k.path ≡ Less) (sym i) a.0
    above (y ∷ rows) a (inr m) = above rows a.1 m

same_entry : (e f : Listed) → e.path ≡ f.path → e.layer ≡ f.layer → e.header ≡ f.header → e ≡ f
same_entry e f p l h =
    ap (λ (x : Path). record { path = x; layer = e.layer; header = e.header }) p
    ∙ ap (λ (x : ℕ). record { path = f.path; layer = x; header = e.header }) l
    ∙ ap (λ (x : ℕ). record { path = f.path; layer = f.layer; header = x }) h

module _ (layers : List (List ℕ)) (t : TreeRows) (is : IsTreeOf 0 layers t) where
  is_shown : (l : Listed) → IsAmong l (listing t) → IsShown layers l
  is_shown l m =
      let a = at_among t.entries is.rising l m in
      let o = is.only l.path a.0 a.1 in
      let w = o.3 in
      let i : l.layer ≡ o.0 = ap (λ (k : Listed). k.layer) a.2 ∙ omega (arith, w.layer) in
      let h : l.header ≡ a.0.place.header = ap (λ (k : Listed). k.header) a.2 in (
        o.1,
        subst (λ n. Shows layers l.path n o.1) (sym i) o.2,
        subst (λ n. IsFinalIn layers n o.1 l.header)
            (sym i) (subst (λ x. IsFinalIn layers o.0 o.1 x) (sym h) (w.end.0, w.end.1, w.end.2)),
      )

  some_and : {P : Entry → Type 0} (o : Option Entry) → IsSomeAnd o P → (e : Entry) × (o ≡ Some e) × P e
  some_and None p = absurd p
  some_and (Some e) p = (e, refl, p)

  is_among : (l : Listed) → IsShown layers l → IsAmong l (listing t)
  is_among l (h, s, (a, is_a, final)) =
      let e = some_and (at_path t.entries l.path) (is.shown l.path l.layer h s) in
      let w = e.2 in
      let z : Some w.end.0 ≡ Some a = sym w.end.1 ∙ is_a in
      let b : w.end.0 ≡ a = cc in
      let f : IsFinal a h e.0.place.header = subst (λ x. IsFinal x h e.0.place.header) b w.end.2 in
      let same : listed (l.path, e.0) ≡ l = same_entry (listed (l.path, e.0)) l refl (omega (arith, w.layer)) (one_end a h _ _ f final) in
      subst (λ k. IsAmong k (listing t)) same (among_at t.entries l.path e.0 e.1)

  -- the entries of a stack's tree, in their order, are the listing of the stack
  pub is_listing : IsListing layers (listing t)
  is_listing = record { rising = rises_listed t.entries is.rising; exact = λ l. (is_shown l, is_among l) }
