-- A run of layers laid on another one: by recursion on the lower run, the joined run shows what the upper one shows, and what the lower one
-- shows if the upper leaves it free (`shows_joined`); it cuts what either cuts (`cuts_joined`). Then what one layer shows and cuts by
-- itself.
use Rattle.std.proofs.Common.{◌≡◌, sym, subst, ℕ, zero, suc, ◌+◌, ◌⊎◌, ◌↔◌, inl, inr, List, [], ◌∷◌, ◌++◌, length, refl, arith}
use Rattle.std.specs.Prelude.{codes}
use Rattle.std.specs.List.{AllByRecursion}
use Rattle.romfs_format.specs.Chains.{Has}
use Rattle.stack_model.specs.Stack.{Path, IsPlain, IsIn, HasDirectory, HasOther, Cuts, IsFree, IsTop, IsCut, Shows}

free_joined : (low high : List (List ℕ)) (path : Path) → IsFree (low ++ high) path ↔ (IsFree low path × IsFree high path)
free_joined [] high path = (λ f. (tt, f), λ f. f.1)
free_joined (a ∷ low) high path =
    let r = free_joined low high path in
    (λ f. let s = r.0 f.1 in ((f.0, s.0), s.1), λ f. (f.0.0, r.1 (f.0.1, f.1)))

-- the joined run shows a path as its low part does, if the high part leaves it free
pub top_low : (low high : List (List ℕ)) (path : Path) (i h : ℕ) → IsTop low path i h → IsFree high path → IsTop (low ++ high) path i h
top_low (a ∷ low) high path zero h t f = (t.0, (free_joined low high path).1 (t.1, f))
top_low (a ∷ low) high path (suc i) h t f = top_low low high path i h t f
top_low [] high path i h t f = absurd t

-- or as its high part does
pub top_high : (low high : List (List ℕ)) (path : Path) (j h : ℕ) → IsTop high path j h → (i : ℕ) → i ≡ length low + j
    → IsTop (low ++ high) path i h
top_high [] high path j h t i e = subst (λ n. IsTop high path n h) (omega arith) t
top_high (a ∷ low) high path j h t zero e = absurd (omega arith)
top_high (a ∷ low) high path j h t (suc i) e = top_high low high path j h t i (omega arith)

-- and in no other way
pub top_only : (low high : List (List ℕ)) (path : Path) (i h : ℕ) → IsTop (low ++ high) path i h
    → (IsTop low path i h × IsFree high path) ⊎ ((j : ℕ) × (i ≡ length low + j) × IsTop high path j h)
top_only [] high path i h t = inr (i, omega arith, t)
top_only (a ∷ low) high path zero h t = let f = (free_joined low high path).0 t.1 in inl ((t.0, f.0), f.1)
top_only (a ∷ low) high path (suc i) h t = elim (top_only low high path i h t) [
  | inl x ↦ inl x
  | inr x ↦ inr (
    x.0,
    omega (arith, x.1),
    x.2,
  )
]

-- the joined run shows what the high run shows, or what the low run does if the high leaves it
-- free
pub shows_joined : (low high : List (List ℕ)) (path : Path) (i h : ℕ) →
    Shows (low ++ high) path i h
    ↔ (((j : ℕ) × (i ≡ length low + j) × Shows high path j h) ⊎ (Shows low path i h × IsFree high path))
shows_joined low high path i h = (
  λ s. elim (top_only low high path i h s.1) [ inl t ↦ inr ((s.0, t.0), t.1) | inr t ↦ inl (t.0, t.1, (s.0, t.2)) ],
  λ s. elim s [ inl t ↦ (t.2.0, top_high low high path t.0 h t.2.1 i t.1) | inr t ↦ (t.0.0, top_low low high path i h t.0.1 t.1) ],
)

-- the joined run cuts what the low run or the high run cuts
pub cuts_joined : (low high : List (List ℕ)) (path : Path) → IsCut (low ++ high) path ↔ (IsCut low path ⊎ IsCut high path)
cuts_joined [] high path = (λ c. inr c, λ c. elim c [ inl f ↦ absurd f | inr c ↦ c ])
cuts_joined (a ∷ low) high path =
    let r = cuts_joined low high path in (
      λ c. elim c [ inl x ↦ inl (inl x) | inr x ↦ elim (r.0 x) [ inl y ↦ inl (inr y) | inr y ↦ inr y ] ],
      λ c. elim c [ inl x ↦ elim x [ inl y ↦ inl y | inr y ↦ inr (r.1 (inl y)) ] | inr x ↦ inr (r.1 (inr x)) ],
    )

-- one layer shows exactly the plain paths that it has
pub alone : (a : List ℕ) (path : Path) (i h : ℕ) → Shows (a ∷ []) path i h ↔ (IsPlain path × (i ≡ 0) × Has a path h)
alone a path i h = (λ s. (s.0, (bottom i s.1).0, (bottom i s.1).1), λ s. (s.0, subst (λ n. IsTop (a ∷ []) path n h) (sym s.1) (s.2, tt)))
  where
    bottom : (i : ℕ) → IsTop (a ∷ []) path i h → (i ≡ 0) × Has a path h
    bottom zero t = (refl, t.0)
    bottom (suc i) t = absurd t

-- a run leaves a path free if no layer of it has the path, and it does not cut it
pub free_is : (layers : List (List ℕ)) (path : Path) → IsFree layers path ↔ (AllByRecursion (λ a. ¬ IsIn a path) layers
    × ¬ IsCut layers path)
free_is [] path = (λ f. (tt, λ c. c), λ f. tt)
free_is (a ∷ above) path =
    let r = free_is above path in (
      λ f. ((f.0.0, (r.0 f.1).0), elim [ inl c ↦ f.0.1 c | inr c ↦ (r.0 f.1).1 c ]),
      λ f. ((f.0.0, λ c. f.1 (inl c)), r.1 (f.0.1, λ c. f.1 (inr c))),
    )

-- a marker for a name cuts that name in its directory, with everything below it
pub cut_by_marker : (a : List ℕ) (q rest : Path) (y : List ℕ) → IsPlain (q ++ y ∷ rest) → HasDirectory a q
    → IsIn a (q ++ (codes ".wh." ++ y) ∷ []) → Cuts a (q ++ y ∷ rest)
cut_by_marker a q rest y p d m = (p, (q, y, rest, refl, (d, inl m)))

-- an opaque marker cuts everything in its directory
pub cut_by_opaque : (a : List ℕ) (q rest : Path) (y : List ℕ) → IsPlain (q ++ y ∷ rest) → HasDirectory a q
    → IsIn a (q ++ codes ".wh..wh..opq" ∷ []) → Cuts a (q ++ y ∷ rest)
cut_by_opaque a q rest y p d m = (p, (q, y, rest, refl, (d, inr (inl m))))

-- an entry that is not a directory cuts its own path, with everything below it
pub cut_by_other : (a : List ℕ) (q rest : Path) (y : List ℕ) → IsPlain (q ++ y ∷ rest) → HasDirectory a q → HasOther a (q ++ y ∷ [])
    → Cuts a (q ++ y ∷ rest)
cut_by_other a q rest y p d m = (p, (q, y, rest, refl, (d, inr (inr m))))

-- no layer cuts the root
pub root_stays : (a : List ℕ) → ¬ Cuts a []
root_stays a (p, (q, y, rest, e, c)) = none q y rest e
  where
    none : (q : Path) (y : List ℕ) (rest : Path) → ◌≡◌ {A = Path} [] (q ++ y ∷ rest) → ⊥
    none [] y rest e = cc
    none (x ∷ q) y rest e = cc

-- what a layer cuts by markers and entries, and that it leaves the root
pub ruleset cuts_of_a_layer = (cut_by_marker, cut_by_opaque, cut_by_other, root_stays)

-- what a joined run shows, cuts and leaves free
pub ruleset joins = (shows_joined, cuts_joined, free_is)
