-- One step of a climb: a point is put on the path, or removed from it. One lemma each says what is
-- then the lowest of each class (`low_enters`, `low_leaves`), what is noted (`spare_enters`,
-- `lower_enters`), and what is compared (`compared_enters`).
use Rattle.std.proofs.Common.{◌≡◌, ◌≢◌, ◌∙◌, sym, ap, subst, ℕ, ◌<◌, ◌≤◌, ◌⊎◌, inl, inr, List, ◌∷◌, length, get_or, set, min, max, Bool, true, false, refl, arith}
use Rattle.std.proofs.lemmas.List.{get_or-set_same, get_or-set_other, length-set}
use Rattle.std.proofs.lemmas.Bool.{cases_eq, cases_order}
use Rattle.romfs_sets.specs.Climb.{After, one, more, On, top, under, HasLower, IsLowest, IsLow, IsSpare, IsCompared, AreLower, IsNoted}

-- what comes after u is what is on the path
pub record Covers (next path : List ℕ) (u : ℕ) : Type 0 where
  pub on : (y : ℕ) → After next u y → On path y
  pub after : (y : ℕ) → On path y → After next u y

-- if y comes after x, so does the point that y leads on to
pub then_next : {next : List ℕ} {x y : ℕ} → After next x y → After next x (get_or next y 0)
then_next {next = next} (one e) = more e (one refl)
then_next (more e a) = more e (then_next a)

-- what comes after a point is the next one, or comes after that
pub after_next : {next : List ℕ} {x y : ℕ} → After next x y → (get_or next x 0 ≡ y) ⊎ After next (get_or next x 0) y
after_next (one e) = inl e
after_next {next = next} {y = y} (more e a) = inr (subst (λ w. After next w y) (sym e) a)

-- what is on a path is its first point, or on the rest
pub on_cases : {x y : ℕ} {path : List ℕ} → On (x ∷ path) y → (y ≡ x) ⊎ On path y
on_cases top = inl refl
on_cases (under o) = inr o

module _ (next path : List ℕ) where
  -- what comes after a point that leads to u is u, and what comes after u
  pub covers_next : (u w : ℕ) → get_or next w 0 ≡ u → Covers next path u → Covers next (u ∷ path) w
  covers_next u w e c = record {
    on = λ y a. elim (after_next a) [
      | inl f ↦ subst (λ v. On (u ∷ path) v) (sym e ∙ f) top
      | inr b ↦ under (c.on y (subst (λ v. After next v y) e b))
    ];
    after = λ y o. elim (on_cases o) [
      | inl f ↦ one (e ∙ sym f)
      | inr p ↦ more e (c.after y p)
    ];
  }

module _ (class low path : List ℕ) (u : ℕ) (fits : u < length class) (named : get_or class u 0 < length class) where
  low_fits : IsLow class low path → get_or class u 0 < length low
  low_fits w = let s = w.sized in omega arith

  -- u is put on the path
  lowest_enters : (v : ℕ) → IsLowest class path (length class) (get_or class u 0) v
      → IsLowest class (u ∷ path) (length class) (get_or class u 0) (min v u)
  lowest_enters v l = record {
    there = elim (cases_order v u) [
      | inl e ↦ (let m : min v u ≡ u = omega arith in rw m (inr (top, refl)))
      | inr (inl k) ↦ (let m : min v u ≡ v = omega arith in rw m (elim l.there [ inl e ↦ inl e | inr o ↦ inr (under o.0, o.1) ]))
      | inr (inr k) ↦ (let m : min v u ≡ u = omega arith in rw m (inr (top, refl)))
    ];
    least = λ y o e. elim (on_cases o) [
      | inl f ↦ omega arith
      | inr p ↦ (let k = l.least y p e in omega arith)
    ];
  }

  lowest_stays : (c v : ℕ) → c ≢ get_or class u 0 → IsLowest class path (length class) c v → IsLowest class (u ∷ path) (length class) c v
  lowest_stays c v d l = record {
    there = elim l.there [ inl e ↦ inl e | inr o ↦ inr (under o.0, o.1) ];
    least = λ y o e. elim (on_cases o) [
      | inl f ↦ absurd (d (sym e ∙ ap (λ z. get_or class z 0) f))
      | inr p ↦ l.least y p e
    ];
  }

  lowest_leaves : (c v : ℕ) → c ≢ get_or class u 0 → IsLowest class (u ∷ path) (length class) c v → IsLowest class path (length class) c v
  lowest_leaves c v d l = record {
    there = elim l.there [
      | inl e ↦ inl e
      | inr o ↦ elim (on_cases o.0) [
        | inl f ↦ absurd (d (sym o.1 ∙ ap (λ z. get_or class z 0) f))
        | inr p ↦ inr (p, o.1)
      ]
    ];
    least = λ y o e. l.least y (under o) e;
  }

  -- with u on the path, the lowest of its class is the lower one of u and what was lowest
  pub low_enters : IsLow class low path → IsLow class (set low (get_or class u 0) (min (get_or low (get_or class u 0) 0) u)) (u ∷ path)
  low_enters w = record {
    sized = length-set low _ _ ∙ w.sized;
    each = λ c l. elim (cases_eq c (get_or class u 0)) [
      | inl e ↦ rw e (subst (λ v. IsLowest class (u ∷ path) (length class) (get_or class u 0) v)
          (sym (get_or-set_same low (get_or class u 0) _ 0 (low_fits w))) (lowest_enters _ (w.each _ named)))
      | inr d ↦ subst (λ v. IsLowest class (u ∷ path) (length class) c v)
          (sym (get_or-set_other low (get_or class u 0) c _ 0 d)) (lowest_stays c _ d (w.each c l))
    ];
  }

  -- with u removed from the path, the lowest of its class is what was lowest without it
  pub low_leaves : (old : ℕ) → IsLowest class path (length class) (get_or class u 0) old
      → IsLow class low (u ∷ path) → IsLow class (set low (get_or class u 0) old) path
  low_leaves old o w = record {
    sized = length-set low _ _ ∙ w.sized;
    each = λ c l. elim (cases_eq c (get_or class u 0)) [
      | inl e ↦ rw e (subst (λ v. IsLowest class path (length class) (get_or class u 0) v)
          (sym (get_or-set_same low (get_or class u 0) old 0 (let s = w.sized in omega arith))) o)
      | inr d ↦ subst (λ v. IsLowest class path (length class) c v) (sym (get_or-set_other low (get_or class u 0) c old 0 d))
          (lowest_leaves c _ d (w.each c l))
    ];
  }

-- u is put on the path, v was the lowest of its class, and the higher of both is noted
pub record IsPut (class path : List ℕ) (u v : ℕ) (noted more : List Bool) : Type 0 where
  pub fits : u < length class
  pub lowest : IsLowest class path (length class) (get_or class u 0) v
  pub made : IsNoted noted more (length class) v u

-- what then is noted
module _ (next class path : List ℕ) (u v : ℕ) (noted more : List Bool) (put : IsPut class path u v noted more) where
  -- with u on the path, all but the lowest of each class on it are noted
  pub spare_enters : IsSpare class path noted → IsSpare class (u ∷ path) more
  spare_enters s = record {
    sized = put.made.sized ∙ s.sized;
    inside = λ x o. elim (on_cases o) [ inl f ↦ omega arith | inr q ↦ s.inside x q ];
    each = λ x y o p e l. elim (on_cases o) [
      | inl f ↦ elim (on_cases p) [
        | inl g ↦ absurd (omega arith)
        | inr q ↦ (
            let c : get_or class y 0 ≡ get_or class u 0 = sym e ∙ ap (λ z. get_or class z 0) f in
            let k = put.lowest.least y q c in
            let m : max v u ≡ x = omega arith in
            subst (λ z. get_or more z false ≡ true) m (put.made.made (omega arith) (omega arith)))
      ]
      | inr q ↦ elim (on_cases p) [
        | inl g ↦ higher x (s.inside x q) q (e ∙ ap (λ z. get_or class z 0) g) (omega arith)
        | inr r ↦ put.made.kept x (s.each x y q r e l)
      ]
    ];
  }
    where
      here : (x : ℕ) → x < length class → On path x → get_or class x 0 ≡ get_or class u 0 → u < x → v ≤ x
          → On path v → get_or class v 0 ≡ get_or class u 0 → get_or more x false ≡ true
      here x i q c l k o f = elim (cases_order v x) [
        | inl e ↦
            let m : max v u ≡ x = omega arith in
            subst (λ z. get_or more z false ≡ true) m (put.made.made (omega arith) (omega arith))
        | inr (inl m) ↦ put.made.kept x (s.each x v q o (c ∙ sym f) m)
        | inr (inr m) ↦ absurd (omega arith)
      ]

      higher : (x : ℕ) → x < length class → On path x → get_or class x 0 ≡ get_or class u 0 → u < x → get_or more x false ≡ true
      higher x i q c l =
          let k = put.lowest.least x q c in
          elim put.lowest.there [ inl e ↦ absurd (omega arith) | inr o ↦ here x i q c l k o.0 o.1 ]

  -- u, once entered, has been compared with what comes after it
  pub compared_enters : Covers next path u → (entered : List Bool) → u < length entered
      → IsCompared next class entered noted → IsSpare class (u ∷ path) more
      → IsCompared next class (set entered u true) more
  compared_enters c entered room w s = record {
    sized = length-set entered u true ∙ w.sized;
    low = λ x y m a e l. elim (cases_eq x u) [
      | inl f ↦ s.each x y (subst (λ z. On (u ∷ path) z) (sym f) top) (under (c.on y (subst (λ z. After next z y) f a))) e l
      | inr d ↦ put.made.kept x (w.low x y (sym (get_or-set_other entered u x true false d) ∙ m) a e l)
    ];
    high = λ x y m a e l. elim (cases_eq x u) [
      | inl f ↦ s.each y x (under (c.on y (subst (λ z. After next z y) f a))) (subst (λ z. On (u ∷ path) z) (sym f) top) (sym e) l
      | inr d ↦ put.made.kept y (w.high x y (sym (get_or-set_other entered u x true false d) ∙ m) a e l)
    ];
  }

  -- what is noted as u is entered has a lower point of its class before or after it
  pub lower_enters : ((y : ℕ) → On path y → After next u y ⊎ After next y u) → AreLower next class noted → AreLower next class more
  lower_enters r w = record {
    each = λ x m. elim (put.made.only x m) [
      | inl o ↦ w.each x o
      | inr k ↦ elim put.lowest.there [
        | inl e ↦ absurd (let f = k.1 in omega arith)
        | inr o ↦ right x k.0 k.2 o.0 o.1
      ]
    ];
  }
    where
      swap : {P Q : Type 0} → P ⊎ Q → Q ⊎ P
      swap (inl p) = inr p
      swap (inr q) = inl q

      right : (x : ℕ) → x ≡ max v u → v ≢ u → On path v → get_or class v 0 ≡ get_or class u 0 → HasLower next class x
      right x e d o f = elim (cases_order v u) [
        | inl q ↦ absurd (d q)
        | inr (inl l) ↦ (let m : x ≡ u = omega arith in rw m (v, record { below = l; same = f; along = r v o }))
        | inr (inr l) ↦ (let m : x ≡ v = omega arith in rw m (u, record { below = l; same = sym f; along = swap (r v o) }))
      ]
