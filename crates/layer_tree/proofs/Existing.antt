-- Sound layers have a listing (some_listing): all their paths, sorted, those that are shown with their places. shown_at inserts one path
-- after another. Deciding says which are shown, and one_shown that one entry shows each.
use Rattle.std.proofs.Common.{◌≡◌, ◌∙◌, sym, ap, subst, ℕ, zero, suc, ◌⊎◌, ◌↔◌, inl, inr, List, [], ◌∷◌, ◌++◌, Some, refl, arith, Contains}
use Rattle.std.specs.Prelude.{slice_get}
use Rattle.std.specs.declared.cmp.Ordering.{Ordering}
use Rattle.std.specs.declared.cmp.Ordering.TheVariants.{Less, Equal, Greater}
use Rattle.std.specs.List.{AllByRecursion}
use Rattle.std.specs.Cmp.{IsTotalOrder}
use Rattle.std.specs.Cmp.Lexicographic.{slice_cmp}
use Rattle.std.specs.Ordering.{nat_cmp, ordering_reverse, ordering_then}
use Rattle.std.proofs.lemmas.Cmp.{nat_list_cmp_total, lists_total}
use Rattle.std.proofs.lemmas.List.Elements.{Contains-append_left, Contains-append_right}
use Rattle.romfs_format.specs.Fields.{root}
use Rattle.romfs_format.specs.Chains.{Has}
use Rattle.romfs_format.specs.Links.{IsFinal}
use Rattle.romfs_reader.specs.Images.{IsImage}
use Rattle.romfs_reader.proofs.Paths.{one_header, all_paths}
use Rattle.stack_model.specs.Stack.{Path, IsPlain, IsIn, IsFree, IsTop}
use Rattle.stack_model.specs.Listing.{Entry, path_cmp, Rises, IsAmong, IsShown, IsListing}
use Rattle.layer_names.proofs.Places.{equal}
use Rattle.layer_tree.proofs.Joining.{top_in}
use Rattle.layer_paths.proofs.Listed.{one_end}
use Rattle.layer_tree.proofs.Parents.{AreImages}
use Rattle.layer_tree.proofs.Deciding.{IsDecided, both_decided, not_decided, plain_decided, first_or_later, has_decided, cut_decided, has_end}

path_order : IsTotalOrder path_cmp
path_order = lists_total nat_list_cmp_total

equal_paths : (p q : Path) → path_cmp p q ≡ Equal → p ≡ q
equal_paths [] [] e = refl
equal_paths [] (n ∷ q) e = absurd (cc)
equal_paths (m ∷ p) [] e = absurd (cc)
equal_paths (m ∷ p) (n ∷ q) e = go (equal_paths p q) (slice_cmp nat_cmp m n) refl e
  where
    go : (path_cmp p q ≡ Equal → p ≡ q) → (o : Ordering) → slice_cmp nat_cmp m n ≡ o → ordering_then o (path_cmp p q) ≡ Equal
        → m ∷ p ≡ n ∷ q
    go rest Equal f g = ap (λ x. x ∷ p) (equal m n f) ∙ ap (λ r. n ∷ r) (rest g)
    go rest Less f g = absurd (cc)
    go rest Greater f g = absurd (cc)

path_cases : (p q : Path) → (path_cmp p q ≡ Less) ⊎ (p ≡ q) ⊎ (path_cmp q p ≡ Less)
path_cases p q = go (path_cmp p q) refl
  where
    go : (o : Ordering) → path_cmp p q ≡ o → (path_cmp p q ≡ Less) ⊎ (p ≡ q) ⊎ (path_cmp q p ≡ Less)
    go Less e = inl e
    go Equal e = inr (inl (equal_paths p q e))
    go Greater e = inr (inr (path_order.antisymm q p ∙ ap ordering_reverse e))

all_after : (p q : Path) (fs : List Entry) → path_cmp p q ≡ Less
    → AllByRecursion (λ f. path_cmp q f.path ≡ Less) fs → AllByRecursion (λ f. path_cmp p f.path ≡ Less) fs
all_after p q [] l r = tt
all_after p q (f ∷ fs) l r = (path_order.trans p q f.path l r.0, all_after p q fs l r.1)

all_among : (P : Entry → Type 0) (es : List Entry) → ((e : Entry) → IsAmong e es → P e) → AllByRecursion P es
all_among P [] h = tt
all_among P (e ∷ es) h = (h e (inl refl), all_among P es (λ f m. h f (inr m)))

among_all : (P : Entry → Type 0) (es : List Entry) (e : Entry) → AllByRecursion P es → IsAmong e es → P e
among_all P [] e r m = absurd m
among_all P (f ∷ es) e r (inl q) = subst P (sym q) r.0
among_all P (f ∷ es) e r (inr m) = among_all P es e r.1 m

-- out are the entries and e, rising
record IsInserted (e : Entry) (entries out : List Entry) : Type 0 where
  rising : Rises out
  among : (f : Entry) → IsAmong f out ↔ ((f ≡ e) ⊎ IsAmong f entries)

inserted : (e : Entry) (es : List Entry) → Rises es → ((f : Entry) → IsAmong f es → e.path ≡ f.path → e ≡ f) → (out : List Entry)
    × IsInserted e es out
inserted e [] r one = (e ∷ [], record { rising = (tt, tt); among = λ f. (λ m. m, λ m. m) })
inserted e (f ∷ fs) r one = elim (path_cases e.path f.path) [
  | inl l ↦ (e ∷ f ∷ fs, record { rising = ((l, all_after e.path f.path fs l r.0), r); among = λ g. (λ m. m, λ m. m) })
  | inr (inl q) ↦ (
      let same = one f (inl refl) q in
      (f ∷ fs, record { rising = r; among = λ g. (λ m. inr m, λ m. elim m [ inl x ↦ inl (x ∙ same) | inr y ↦ y ]) }))
  | inr (inr l) ↦ (
      let s = inserted e fs r.1 (λ g m. one g (inr m)) in
      let after : AllByRecursion (λ g. path_cmp f.path g.path ≡ Less) s.0 = all_among (λ g. path_cmp f.path g.path ≡ Less) s.0
      (λ g m. elim ((s.1.among g).0 m) [
        | inl x ↦ subst (λ y. path_cmp f.path y.path ≡ Less) (sym x) l
        | inr y ↦ among_all (λ g. path_cmp f.path g.path ≡ Less) fs g r.0 y
      ]) in (
        f ∷ s.0,
        record {
          rising = (after, s.1.rising);
          among = λ g. (
            λ m. elim m [ inl x ↦ inr (inl x) | inr y ↦ elim ((s.1.among g).0 y) [ inl x ↦ inl x | inr z ↦ inr (inr z) ] ],
            λ m. elim m [ inl x ↦ inr ((s.1.among g).1 (inl x)) | inr (inl x) ↦ inl x | inr (inr z) ↦ inr ((s.1.among g).1 (inr z)) ],
          );
        },
      ))
]

free_decided : (layers : List (List ℕ)) → AreImages layers → (path : Path) → IsDecided (IsFree layers path)
free_decided [] im path = inl tt
free_decided (a ∷ above) im path =
    both_decided (both_decided (not_decided (has_decided a im.0 path)) (not_decided (cut_decided a im.0 path)))
    (free_decided above im.1 path)

no_top : (a : List ℕ) (above : List (List ℕ)) (path : Path) → ¬ (IsIn a path × IsFree above path)
    → ¬ ((i h : ℕ) × IsTop above path i h) → (i h : ℕ) → ¬ IsTop (a ∷ above) path i h
no_top a above path m n zero h t = m ((h, t.0), t.1)
no_top a above path m n (suc i) h t = n (i, h, t)

top_decided : (layers : List (List ℕ)) → AreImages layers → (path : Path) → IsDecided ((i h : ℕ) × IsTop layers path i h)
top_decided [] im path = inr (λ t. t.2)
top_decided (a ∷ above) im path = elim (top_decided above im.1 path) [
  | inl t ↦ inl (suc t.0, t.1, t.2)
  | inr n ↦ elim (both_decided (has_decided a im.0 path) (free_decided above im.1 path)) [
    | inl t ↦ inl (zero, t.0.0, (t.0.1, t.1))
    | inr m ↦ inr (λ t. no_top a above path m n t.0 t.1 t.2)
  ]
]

-- a run shows a path in one place
one_top : (layers : List (List ℕ)) → AreImages layers → (path : Path) (i h j g : ℕ) → IsTop layers path i h → IsTop layers path j g
    → (i ≡ j) × (h ≡ g)
one_top [] im path i h j g t u = absurd t
one_top (a ∷ above) im path zero h zero g t u = (refl, one_header a im.0 path (root a) h g t.0 u.0)
one_top (a ∷ above) im path zero h (suc j) g t u = absurd (top_in above path j g u t.1)
one_top (a ∷ above) im path (suc i) h zero g t u = absurd (top_in above path i h t u.1)
one_top (a ∷ above) im path (suc i) h (suc j) g t u = let r = one_top above im.1 path i h j g t u in (ap suc r.0, r.1)

-- where hard links from it end
top_end : (layers : List (List ℕ)) → AreImages layers → (path : Path) (i h : ℕ) → IsTop layers path i h
    → (a : List ℕ) × (slice_get layers i ≡ Some a) × ((e : ℕ) × IsFinal a h e)
top_end [] im path i h t = absurd t
top_end (a ∷ above) im path zero h t = (a, refl, has_end a im.0 path h t.0)
top_end (a ∷ above) im path (suc i) h t = top_end above im.1 path i h t

module _ (layers : List (List ℕ)) (im : AreImages layers) where
  shown_decided : (path : Path) → IsDecided ((e : Entry) × (e.path ≡ path) × IsShown layers e)
  shown_decided path = elim (both_decided (plain_decided path) (top_decided layers im path)) [
    | inl (p, (i, h, t)) ↦ (
        let f = top_end layers im path i h t in
        inl (record { path = path; layer = i; header = f.2.0 }, refl, (h, (p, t), (f.0, f.1, f.2.1))))
    | inr n ↦ inr (λ s. let x = s.2 in n (subst IsPlain s.1 x.1.0, (s.0.layer, x.0, subst (λ p. IsTop layers p s.0.layer x.0) s.1 x.1.1)))
  ]

  one_shown : (e f : Entry) → IsShown layers e → IsShown layers f → e.path ≡ f.path → e ≡ f
  one_shown e f (h, (p, t), (a, at, end)) (g, (q, u), (b, at', end')) same =
      let r = one_top layers im f.path e.layer h f.layer g (subst (λ x. IsTop layers x e.layer h) same t) u in
      let z : Some a ≡ Some b = sym at ∙ ap (slice_get layers) r.0 ∙ at' in
      let w : a ≡ b = cc in
      let header : e.header ≡ f.header = one_end b g e.header f.header
      (subst (λ x. IsFinal b x e.header) r.1 (subst (λ x. IsFinal x h e.header) w end)) end' in
      ap (λ (x : Path). record { path = x; layer = e.layer; header = e.header }) same
      ∙ ap (λ (x : ℕ). record { path = f.path; layer = x; header = e.header }) r.0
      ∙ ap (λ (x : ℕ). record { path = f.path; layer = f.layer; header = x }) header

  -- the entries are those that the layers show at these paths, and maybe others that they show
  record AreShownAt (paths : List Path) (entries : List Entry) : Type 0 where
    rising : Rises entries
    shown : (e : Entry) → IsAmong e entries → IsShown layers e
    whole : (e : Entry) → IsShown layers e → Contains paths e.path → IsAmong e entries

  shown_at : (paths : List Path) → (entries : List Entry) × AreShownAt paths entries
  shown_at [] = ([], record { rising = tt; shown = λ e m. absurd m; whole = λ e s c. (let l = c.1 in absurd (omega arith)) })
  shown_at (p ∷ ps) =
      let r = shown_at ps in
      elim (shown_decided p) [
        | inr n ↦ (
          r.0,
          record {
            rising = r.1.rising;
            shown = r.1.shown;
            whole = λ e s c. elim (first_or_later p e.path ps c) [ inl q ↦ absurd (n (e, sym q, s)) | inr d ↦ r.1.whole e s d ];
          },
        )
        | inl (x, q, s) ↦ (
            let t = inserted x r.0 r.1.rising (λ f m. one_shown x f s (r.1.shown f m)) in (
              t.0,
              record {
                rising = t.1.rising;
                shown = λ e m. elim ((t.1.among e).0 m) [ inl z ↦ subst (IsShown layers) (sym z) s | inr y ↦ r.1.shown e y ];
                whole = λ e h c. (t.1.among e).1 (elim (first_or_later p e.path ps c) [
                  | inl z ↦ inl (one_shown e x h s (sym z ∙ sym q))
                  | inr d ↦ inr (r.1.whole e h d)
                ]);
              },
            ))
      ]

-- all paths of a run
AreAllPaths : List (List ℕ) → List Path → Type 0
AreAllPaths layers all = (path : Path) (i h : ℕ) → IsTop layers path i h → Contains all path

more_paths : (a : List ℕ) (above : List (List ℕ)) (here up : List Path)
    → ((path : Path) (h : ℕ) → Has a path h → Contains here path) → AreAllPaths above up
    → AreAllPaths (a ∷ above) (here ++ up)
unfolding AreAllPaths
more_paths a above here up f g path zero h t = Contains-append_left here up path (f path h t.0)
more_paths a above here up f g path (suc i) h t = Contains-append_right here up path (g path i h t)

all_tops : (layers : List (List ℕ)) → AreImages layers → (all : List Path) × AreAllPaths layers all
unfolding AreAllPaths
all_tops [] im = ([], λ path i h t. absurd t)
all_tops (a ∷ above) im =
    let here = all_paths a im.0 in
    let up = all_tops above im.1 in
    (here.0 ++ up.0, more_paths a above here.0 up.0 here.1 up.1)

-- layers that are all sound have a listing
pub some_listing : (layers : List (List ℕ)) → AllByRecursion IsImage layers → (entries : List Entry) × IsListing layers entries
unfolding AreAllPaths
some_listing layers im =
    let all = all_tops layers im in
    let s = shown_at layers im all.0 in (
      s.0,
      record {
        rising = s.1.rising;
        exact = λ e. (s.1.shown e, λ x. s.1.whole e x (all.1 e.path e.layer x.0 x.1.1));
      },
    )
