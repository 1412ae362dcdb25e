-- Two lists of layers that look the same, pairwise, show the same paths at the same places: they have one listing (listing_goes).
use Rattle.std.proofs.Common.{◌≡◌, ◌∙◌, sym, ap, subst, ℕ, zero, suc, inl, inr, List, [], ◌∷◌, Some, refl}
use Rattle.std.specs.Prelude.{slice_get, ⊤}
use Rattle.romfs_format.specs.declared.head.Head.{Head}
use Rattle.romfs_format.specs.Fields.{kind}
use Rattle.romfs_format.specs.Chains.{Has}
use Rattle.romfs_format.specs.Links.{IsFinal}
use Rattle.stack_model.specs.Stack.{Path, IsIn, HasDirectory, HasOther, CutsIn, Cuts, IsFree, IsTop}
use Rattle.stack_model.specs.Listing.{Entry, IsAmong, IsShown, IsFinalIn, IsListing}
use Rattle.serve_core.proofs.Looks.{LooksSame, looks_back}

module _ (a b : List ℕ) (s : LooksSame a b) where
  has_goes : (path : Path) (h : ℕ) → Has a path h → Has b path h
  has_goes path h x = ((s.paths path h).0 x).0

  kind_goes : (path : Path) (h : ℕ) → Has a path h → kind a h ≡ kind b h
  kind_goes path h x = ap (λ (d : Head). d.kind) ((s.paths path h).0 x).1

  in_goes : (path : Path) → IsIn a path → IsIn b path
  in_goes path (h, x) = (h, has_goes path h x)

  directory_goes : (path : Path) → HasDirectory a path → HasDirectory b path
  directory_goes path (h, x, k) = (h, has_goes path h x, sym (kind_goes path h x) ∙ k)

  other_goes : (path : Path) → HasOther a path → HasOther b path
  other_goes path (h, x, k) = (h, has_goes path h x, λ e. k (kind_goes path h x ∙ e))

  cuts_in_goes : (q : Path) (y : List ℕ) → CutsIn a q y → CutsIn b q y
  cuts_in_goes q y (d, inl m) = (directory_goes q d, inl (in_goes _ m))
  cuts_in_goes q y (d, inr (inl m)) = (directory_goes q d, inr (inl (in_goes _ m)))
  cuts_in_goes q y (d, inr (inr o)) = (directory_goes q d, inr (inr (other_goes _ o)))

  cuts_goes : (path : Path) → Cuts a path → Cuts b path
  cuts_goes path (p, (q, y, rest, e, c)) = (p, (q, y, rest, e, cuts_in_goes q y c))

-- each layer of the one list looks the same as that of the other at its position
abbrev pub LookSame : List (List ℕ) → List (List ℕ) → Type 0
LookSame [] [] = ⊤
LookSame (a ∷ xs) (b ∷ ys) = LooksSame a b × LookSame xs ys
LookSame [] (b ∷ ys) = ⊥
LookSame (a ∷ xs) [] = ⊥

pub look_back : (xs ys : List (List ℕ)) → LookSame xs ys → LookSame ys xs
look_back [] [] s = tt
look_back (a ∷ xs) (b ∷ ys) s = (looks_back a b s.0, look_back xs ys s.1)
look_back [] (b ∷ ys) s = absurd s
look_back (a ∷ xs) [] s = absurd s

free_goes : (xs ys : List (List ℕ)) → LookSame xs ys → (path : Path) → IsFree xs path → IsFree ys path
free_goes [] [] s path f = tt
free_goes (a ∷ xs) (b ∷ ys) s path f =
    let t = looks_back a b s.0 in
    (((λ m. f.0.0 (in_goes b a t path m)), (λ c. f.0.1 (cuts_goes b a t path c))), free_goes xs ys s.1 path f.1)
free_goes [] (b ∷ ys) s path f = absurd s
free_goes (a ∷ xs) [] s path f = absurd s

-- the place of a header of a layer, the same in the layer of the other list
pub record IsPair (xs ys : List (List ℕ)) (i header : ℕ) : Type 0 where
  pub a : List ℕ
  pub b : List ℕ
  pub a_is : slice_get xs i ≡ Some a
  pub b_is : slice_get ys i ≡ Some b
  pub same : LooksSame a b
  pub path : Path
  pub first : ℕ
  pub has : Has a path first
  pub final : IsFinal a first header

top_goes : (xs ys : List (List ℕ)) → LookSame xs ys → (path : Path) (i h header : ℕ) → IsTop xs path i h → IsFinalIn xs i h header
    → IsTop ys path i h × IsFinalIn ys i h header × IsPair xs ys i header
top_goes [] [] s path i h header t f = absurd t
top_goes [] (b ∷ ys) s path i h header t f = absurd s
top_goes (a ∷ xs) [] s path i h header t f = absurd s
top_goes (a ∷ xs) (b ∷ ys) s path zero h header t f =
    let e : f.0 ≡ a = let z : Some a ≡ Some f.0 = f.1 in cc in
    let g : IsFinal a h header = subst (λ x. IsFinal x h header) e f.2 in (
      (has_goes a b s.0 path h t.0, free_goes xs ys s.1 path t.1),
      (b, refl, ((s.0.ends path h header t.0).0 g).0),
      record { a = a; b = b; a_is = refl; b_is = refl; same = s.0; path = path; first = h; has = t.0; final = g },
    )
top_goes (a ∷ xs) (b ∷ ys) s path (suc i) h header t f =
    let r = top_goes xs ys s.1 path i h header t f in
    let p = r.2 in (
      r.0,
      r.1,
      record {
        a = p.a;
        b = p.b;
        a_is = p.a_is;
        b_is = p.b_is;
        same = p.same;
        path = p.path;
        first = p.first;
        has = p.has;
        final = p.final;
      },
    )

shown_goes : (xs ys : List (List ℕ)) → LookSame xs ys → (e : Entry) → IsShown xs e → IsShown ys e
shown_goes xs ys s e (h, x, f) =
    let r = top_goes xs ys s e.path e.layer h e.header x.1 f in (h, (x.0, r.0), r.1)

-- the other list has the same listing
pub listing_goes : (xs ys : List (List ℕ)) → LookSame xs ys → (entries : List Entry) → IsListing xs entries → IsListing ys entries
listing_goes xs ys s entries l = record {
  rising = l.rising;
  exact = λ e. ((λ m. shown_goes xs ys s e ((l.exact e).0 m)), (λ x. (l.exact e).1 (shown_goes ys xs (look_back xs ys s) e x)));
}

-- and an entry's place is the same in both
pub entry_pair : (xs ys : List (List ℕ)) → LookSame xs ys → (entries : List Entry) → IsListing xs entries → (e : Entry) → IsAmong e entries
    → IsPair xs ys e.layer e.header
entry_pair xs ys s entries l e m =
    let x = (l.exact e).0 m in (top_goes xs ys s e.path e.layer x.0 e.header x.1.1 x.2).2
