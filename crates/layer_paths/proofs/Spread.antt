-- What a directory has at a path, by its branch with the path's first name (`at_spread`): the rows of other branches begin with other
-- names, so a look-up passes them (`at_prefixed_other`), and after the name the branch's own rows are searched for the rest (`here`).
use Rattle.std.proofs.Common.{◌≡◌, ◌≢◌, ◌∙◌, sym, ap, subst, ℕ, inl, inr, List, [], ◌∷◌, ◌++◌, refl, Option, Some, None, Bool, true, false}
use Rattle.std.specs.Prelude.{nat_eq, cond}
use Rattle.std.specs.Cmp.Lexicographic.{pointwise}
use Rattle.layer_paths.specs.Rows.{Subtree, prefixed, spread, whole, named, NamesRise, equal_names, at_path}
use Rattle.layer_paths.proofs.Names.{same_or_not, named_below}

-- what the branch that was found has; nothing if none was
abbrev pub through : {T : Type 0} → Option (Subtree T) → List (List ℕ) → Option T
through None rest = None
through (Some s) rest = at_path (whole s) rest

-- the first, or otherwise the second
abbrev or_else : {T : Type 0} → Option T → Option T → Option T
or_else (Some e) other = Some e
or_else None other = other

same_itself : (n : List ℕ) → pointwise nat_eq n n ≡ true
same_itself n = elim (same_or_not n n) [ inl x ↦ x.1 | inr x ↦ absurd (x.0 refl) ]

differ : (m n : List ℕ) → m ≢ n → pointwise nat_eq m n ≡ false
differ m n f = elim (same_or_not m n) [ inl x ↦ absurd (f x.0) | inr x ↦ x.1 ]

module _ {T : Type 0} where
  at_prefixed_same : (n : List ℕ) (xs : List (List (List ℕ) × T)) (p : List (List ℕ)) → at_path (prefixed n xs) (n ∷ p) ≡ at_path xs p
  at_prefixed_same n [] p = refl
  at_prefixed_same n (x ∷ xs) p = rw (same_itself n, at_prefixed_same n xs p)

  at_prefixed_other : (m n : List ℕ) → m ≢ n → (xs : List (List (List ℕ) × T)) (p : List (List ℕ)) → at_path (prefixed m xs) (n ∷ p) ≡ None
  at_prefixed_other m n f [] p = refl
  at_prefixed_other m n f (x ∷ xs) p = rw (differ m n f, at_prefixed_other m n f xs p)

  or_else_cond : (b : Bool) (e : T) (x y : Option T) → (cond b (Some e) (or_else x y)) ≡ or_else (cond b (Some e) x) y
  or_else_cond true e x y = refl
  or_else_cond false e x y = refl

  at_append : (xs ys : List (List (List ℕ) × T)) (p : List (List ℕ)) → at_path (xs ++ ys) p ≡ or_else (at_path xs p) (at_path ys p)
  at_append [] ys p = refl
  at_append (x ∷ xs) ys p = rw (at_append xs ys p) (or_else_cond (equal_names x.0 p) x.1 (at_path xs p) (at_path ys p))

  or_none : (x : Option T) → or_else x None ≡ x
  or_none None = refl
  or_none (Some e) = refl

  at_none : (n : List ℕ) (ss : List (Subtree T)) (p : List (List ℕ)) → named n ss ≡ None → at_path (spread ss) (n ∷ p) ≡ None
  at_none n [] p e = refl
  at_none n (s ∷ ss) p e = elim (same_or_not s.name n) [
    | inl x ↦ absurd (let f = rw x.1 at e in cc)
    | inr x ↦ rw (x.1, at_append (prefixed s.name s.below) (spread ss) (n ∷ p), at_prefixed_other s.name n x.0 s.below p)
        (at_none n ss p (rw x.1 at e))
  ]

  here : (s : Subtree T) (ss : List (Subtree T)) (p : List (List ℕ)) → at_path (spread ss) (s.name ∷ p) ≡ None
      → at_path (spread (s ∷ ss)) (s.name ∷ p) ≡ at_path (whole s) p
  here s ss [] g = rw (same_itself s.name)
  here s ss (m ∷ p) g = rw (
    same_itself s.name,
    at_append (prefixed s.name s.below) (spread ss)
        (s.name ∷ m ∷ p),
    at_prefixed_same s.name s.below (m ∷ p),
    g,
  ) (or_none (at_path s.below (m ∷ p)))

  -- a directory has at a path what its branch of the first name has at the rest
  pub at_spread : (ss : List (Subtree T)) → NamesRise ss → (n : List ℕ) (p : List (List ℕ)) → at_path (spread ss) (n ∷ p)
      ≡ through (named n ss) p
  at_spread [] r n p = refl
  at_spread (s ∷ ss) r n p = elim (same_or_not s.name n) [
    | inl x ↦
        let k : named n (s ∷ ss) ≡ Some s = rw x.1 in
        subst (λ m. at_path (spread (s ∷ ss)) (m ∷ p) ≡ at_path (whole s) p) x.0
        (here s ss p (at_none s.name ss p (named_below s.name ss r.0))) ∙ sym (ap (λ o. through o p) k)
    | inr x ↦ rw (x.1, at_append (prefixed s.name s.below) (spread ss) (n ∷ p), at_prefixed_other s.name n x.0 s.below p)
        (at_spread ss r.1 n p)
  ]
