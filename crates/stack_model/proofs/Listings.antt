-- A stack has one listing (`one_listing`), since lists that rise and have the same entries are equal (`same_entries`); and a path of its
-- layer leads to each listed place, after hard links (`led_to`).
use Rattle.std.proofs.Common.{◌≡◌, ◌∙◌, sym, ap, subst, ℕ, zero, suc, inl, inr, List, [], ◌∷◌, Some, refl}
use Rattle.std.specs.Prelude.{slice_get}
use Rattle.std.specs.declared.cmp.Ordering.TheVariants.{Less, Greater}
use Rattle.std.specs.List.{AllByRecursion}
use Rattle.std.specs.Cmp.{IsTotalOrder}
use Rattle.std.specs.Ordering.{ordering_reverse}
use Rattle.std.proofs.lemmas.Cmp.{nat_list_cmp_total, lists_total}
use Rattle.romfs_format.specs.Chains.{Has}
use Rattle.romfs_format.specs.Links.{IsFinal}
use Rattle.stack_model.specs.Stack.{Path, IsTop}
use Rattle.stack_model.specs.Listing.{Entry, path_cmp, Rises, IsAmong, IsListing}

order : IsTotalOrder path_cmp
order = lists_total nat_list_cmp_total

not_itself : (p : Path) → path_cmp p p ≡ Less → ⊥
not_itself p e = let s = order.antisymm p p in let r : Less ≡ Greater = sym e ∙ s ∙ ap ordering_reverse e in cc

not_both : (p q : Path) → path_cmp p q ≡ Less → path_cmp q p ≡ Less → ⊥
not_both p q d e = not_itself p (order.trans p q p d e)

above : (e : Entry) (fs : List Entry) (f : Entry) → AllByRecursion (λ f. path_cmp e.path f.path ≡ Less) fs → IsAmong f fs
    → path_cmp e.path f.path ≡ Less
above e [] f l m = elim m [ ]
above e (g ∷ gs) f (l, ls) (inl i) = rw i l
above e (g ∷ gs) f (l, ls) (inr m) = above e gs f ls m

same_entries : (xs ys : List Entry) → Rises xs → Rises ys → ((e : Entry) → IsAmong e xs → IsAmong e ys)
    → ((e : Entry) → IsAmong e ys → IsAmong e xs) → xs ≡ ys
same_entries [] [] r s f g = refl
same_entries [] (y ∷ ys) r s f g = absurd (g y (inl refl))
same_entries (x ∷ xs) [] r s f g = absurd (f x (inl refl))
same_entries (x ∷ xs) (y ∷ ys) r s f g =
    let one : x ≡ y = elim (f x (inl refl)) [
      | inl e ↦ e
      | inr m ↦ elim (g y (inl refl)) [
        | inl e ↦ sym e
        | inr n ↦ absurd
            (not_both x.path y.path (above x xs y r.0 n) (above y ys x s.0 m))
      ]
    ] in
    let rest : xs ≡ ys = same_entries xs ys r.1 s.1
    (λ e m. elim (f e (inr m)) [ inl i ↦ absurd (not_itself e.path (rw (one ∙ sym i) at (above x xs e r.0 m))) | inr n ↦ n ])
    (λ e m. elim (g e (inr m)) [ inl i ↦ absurd (not_itself e.path (rw (sym one ∙ sym i) at (above y ys e s.0 m))) | inr n ↦ n ]) in
    cc

-- two listings of one stack are the same
pub one_listing : (layers : List (List ℕ)) (xs ys : List Entry) → IsListing layers xs → IsListing layers ys → xs ≡ ys
one_listing layers xs ys x y = same_entries xs ys x.rising y.rising (λ e m. (y.exact e).1 ((x.exact e).0 m))
    (λ e m. (x.exact e).1 ((y.exact e).0 m))

-- what shows a path has it
top_has : (layers : List (List ℕ)) (path : List (List ℕ)) (i h : ℕ) → IsTop layers path i h → (a : List ℕ) × (slice_get layers i ≡ Some a)
    × Has a path h
top_has [] path i h t = absurd t
top_has (a ∷ above) path zero h t = (a, refl, t.0)
top_has (a ∷ above) path (suc i) h t = top_has above path i h t

-- hard links from a path of a layer lead to the place
pub record IsLedTo (layers : List (List ℕ)) (layer header : ℕ) : Type 0 where
  pub bytes : List ℕ
  pub path : List (List ℕ)
  pub first : ℕ
  pub is : slice_get layers layer ≡ Some bytes
  pub has : Has bytes path first
  pub ends : IsFinal bytes first header

-- a path leads to each entry's place
pub led_to : (layers : List (List ℕ)) (entries : List Entry) (e : Entry) → IsListing layers entries → IsAmong e entries
    → IsLedTo layers e.layer e.header
led_to layers entries e l m =
    let s = (l.exact e).0 m in
    let t = top_has layers e.path e.layer s.0 s.1.1 in
    let f = s.2 in
    let q : f.0 ≡ t.0 = let z : Some f.0 ≡ Some t.0 = sym f.1 ∙ t.1 in cc in
    record {
      bytes = t.0;
      path = e.path;
      first = s.0;
      is = t.1;
      has = t.2;
      ends = subst (λ a. IsFinal a s.0 e.header) q f.2;
    }
