-- Cycles: how one is found, entered and left. A walk that comes back to where it was has met a
-- cycle (`meets`); its points are entered one by one (`IsRounding`) until it is whole (`gathered`);
-- with all that leads to it entered, it is removed from the path (`IsClearing`, `left`).
use Rattle.std.proofs.Common.{◌≡◌, ◌∙◌, sym, ap, subst, ℕ, zero, suc, ◌+◌, ◌<◌, ◌≤◌, ◌⊎◌, inl, inr, List, [], ◌∷◌, length, get_or, set, drop, reverse, Bool, true, false, refl, arith}
use Rattle.std.proofs.lemmas.List.{get_or-set_same, get_or-set_other, length-set, get_or_read}
use Rattle.std.proofs.lemmas.Bool.{cases_eq}
use Rattle.romfs_sets.specs.Climb.{After, one, more, On, top, under, IsLowest, IsLow, IsSpare, IsCompared, AreLower, AreBelow, Findings, Clears, Enters, IsFound, AreMarksKept, IsClosed, IsFreshWalk, IsGathered}
use Rattle.romfs_sets.proofs.Marks.{newly_set, still_set, was_set}
use Rattle.romfs_sets.proofs.Climbing.{IsPut, then_next, after_next, on_cases, low_enters, spare_enters, lower_enters}
use Rattle.romfs_sets.proofs.Ascent.{on_reverse, on_reversed, drop_turn}

-- a mark is set or not
marked : (b : Bool) → (b ≡ true → ⊥) → b ≡ false
marked true n = absurd (n refl)
marked false n = refl

-- a mark that is set is one of the list
pub marked_inside : (xs : List Bool) (x : ℕ) → get_or xs x false ≡ true → x < length xs
marked_inside [] zero m = cc
marked_inside [] (suc x) m = cc
marked_inside (b ∷ xs) zero m = omega arith
marked_inside (b ∷ xs) (suc x) m = let l = marked_inside xs x m in omega arith

-- a mark that was read as not set is not set
pub unmarked : (xs : List Bool) (i : ℕ) (r : Bool) → i < length xs → r ≡ get_or xs i r → r ≡ false → get_or xs i false ≡ false
unmarked xs i r l e f = sym (get_or_read xs i r l e false) ∙ f

-- no truth value is both true and false
pub clash : (b : Bool) → b ≡ true → b ≡ false → ⊥
clash b t f = cc

-- what comes after a point that comes after x comes after x
pub then_after : {next : List ℕ} {x y z : ℕ} → After next x y → After next y z → After next x z
then_after (one e) b = more e b
then_after (more e a) b = more e (then_after a b)

-- what comes back to itself comes back from wherever it leads
pub comes_back : {next : List ℕ} {x y : ℕ} → After next x y → After next x x → After next y x
comes_back {next = next} {x = x} {y = y} (one e) r = elim (after_next r) [
  | inl f ↦ subst (λ z. After next z x) (sym f ∙ e) r
  | inr b ↦ subst (λ z. After next z x) e b
]
comes_back {next = next} {x = x} {y = y} (more {y = w} e a) r =
    let b : (w ≡ x) ⊎ After next w x = elim (after_next r) [ inl f ↦ inl (sym e ∙ f) | inr b ↦ inr (subst (λ z. After next z x) e b) ] in
    elim b [
      | inl f ↦ subst (λ z. After next y z) f (comes_back a (subst (λ z. After next z z) (sym f) r))
      | inr b ↦ then_after (comes_back a (subst (λ z. After next w z) e (then_next b))) b
    ]

goes_round : {next path : List ℕ} → ((x : ℕ) → On path x → On path (get_or next x 0)) → {x y : ℕ} → After next x y → On path x → On path y
goes_round {path = path} r (one e) p = subst (λ z. On path z) e (r _ p)
goes_round {path = path} r (more e a) p = goes_round r a (subst (λ z. On path z) e (r _ p))

module _ (next : List ℕ) where
  -- a fresh walk leaves its point for the next, and stays fresh
  pub walks : (entered visited : List Bool) (from at : ℕ) → at < length next → at < length visited
      → IsClosed next entered → IsFreshWalk next entered visited from at
      → IsFreshWalk next entered (set visited at true) from (get_or next at 0)
  walks entered visited from at l k c w = record {
    fresh = marked (get_or entered (get_or next at 0) false) (λ m. clash _ (c.each at l m) w.fresh);
    leads = inr (elim w.leads [ inl e ↦ subst (λ z. After next z (get_or next at 0)) e (one refl) | inr a ↦ then_next a ]);
    left = λ x m. elim (was_set visited at x m) [
      | inl e ↦ inr (subst (λ z. After next z (get_or next at 0)) (sym e) (one refl))
      | inr o ↦ elim (w.left x o) [ inl e ↦ inl e | inr a ↦ inr (then_next a) ]
    ];
  }

  -- a walk from a point that is not entered begins fresh
  pub sets_out : (entered visited : List Bool) (from : ℕ) → AreMarksKept visited entered → get_or entered from false ≡ false
      → IsFreshWalk next entered visited from from
  sets_out entered visited from k f = record { fresh = f; leads = inl refl; left = λ x m. inl (k.each x m) }

  -- a point that a fresh walk comes to again comes after itself
  pub meets : (entered visited : List Bool) (from at : ℕ) → get_or visited at false ≡ true → IsFreshWalk next entered visited from at
      → After next at at
  meets entered visited from at m w = elim (w.left at m) [ inl e ↦ absurd (clash _ e w.fresh) | inr a ↦ a ]

  -- what leads to a point that is entered is entered
  pub leads_in : (entered : List Bool) → AreBelow next (length next) → IsClosed next entered → {x y : ℕ}
      → x < length next → After next x y → get_or entered y false ≡ true → get_or entered x false ≡ true
  leads_in entered b c {x = x} l (one e) m = c.each x l (rw e m)
  leads_in entered b c {x = x} l (more e a) m = c.each x l (rw e (leads_in entered b c (rw (← e) (b.each x l)) a m))

-- if no points wait, each point that leads to an entered one is entered
pub closed : {next class cycle : List ℕ} {found : Findings} → IsFound next class cycle [] found → IsClosed next found.entered
closed f = record { each = λ x l m. elim (f.closed x l m) [ inl e ↦ e | inr o ↦ absurd (elim o [ ]) ] }

-- the entering of a cycle that is under way, at `at`, with the last point entered first in `path`; `first` was entered before it
pub record IsRounding (next class : List ℕ) (first : List Bool) (from at : ℕ) (path : List ℕ) (found : Findings) : Type 0 where
  pub lowest : IsLow class found.low path
  pub spare : IsSpare class path found.noted
  pub compared : IsCompared next class first found.noted
  pub lower : AreLower next class found.noted
  pub closed : IsClosed next first
  pub each : (x : ℕ) → get_or found.entered x false ≡ true → (get_or first x false ≡ true) ⊎ On path x
  pub all : (x : ℕ) → On path x → get_or found.entered x false ≡ true
  pub kept : AreMarksKept first found.entered
  pub fresh : get_or first at false ≡ false
  pub leads : (at ≡ from) ⊎ After next from at
  pub led : (x : ℕ) → On path x → (x ≡ from) ⊎ After next from x
  pub on : (x : ℕ) → On path x → On path (get_or next x 0) ⊎ (get_or next x 0 ≡ at)
  pub start : ((at ≡ from) × (path ≡ [])) ⊎ On path from

module _ (next class : List ℕ) (classes : AreBelow class (length next)) (from : ℕ) (cycle : After next from from) where
  -- the entering of a cycle begins with an empty path
  pub begins : (found : Findings) → get_or found.entered from false ≡ false → IsFound next class [] [] found
      → IsRounding next class found.entered from from [] found
  begins found e f = record {
    lowest = f.lowest;
    spare = f.spare;
    compared = f.compared;
    lower = f.lower;
    closed = closed f;
    each = λ x m. inl m;
    all = λ x o. absurd (elim o [ ]);
    kept = record { each = λ x m. m };
    fresh = e;
    leads = inl refl;
    led = λ x o. absurd (elim o [ ]);
    on = λ x o. absurd (elim o [ ]);
    start = inl (refl, refl);
  }

  -- all that the start leads to comes after each other
  tied : (x y : ℕ) → (x ≡ from) ⊎ After next from x → (y ≡ from) ⊎ After next from y → After next x y
  tied x y a b =
      let back : After next x from = elim a [ inl e ↦ subst (λ z. After next z from) (sym e) cycle | inr c ↦ comes_back c cycle ] in
      elim b [ inl e ↦ subst (λ z. After next x z) (sym e) back | inr c ↦ then_after back c ]

  -- `at` is put on the path, and the next point is to be entered
  pub enters : (first : List Bool) (at old : ℕ) (path : List ℕ) (found new : Findings) → Enters next class at old found new
      → IsRounding next class first from at path found
      → IsRounding next class first from (get_or next at 0) (at ∷ path) new
  enters first at old path found new s w =
      let few = classes.sized in
      let fits = s.inside in
      let known : get_or class at 0 < length class = (let e = classes.each at fits in omega arith) in
      let put : IsPut class path at old found.noted new.noted = record {
        fits = omega arith;
        lowest = subst (λ v. IsLowest class path (length class) (get_or class at 0) v) (sym s.lowest_is) (w.lowest.each _ known);
        made = rw few s.noted;
      } in
      record {
        lowest = rw (s.low, s.lowest_is) (low_enters class found.low path at (omega arith) known w.lowest);
        spare = spare_enters next class path at old found.noted new.noted put w.spare;
        compared = record {
          sized = w.compared.sized;
          low = λ x y m a e l. put.made.kept x (w.compared.low x y m a e l);
          high = λ x y m a e l. put.made.kept y (w.compared.high x y m a e l);
        };
        lower = lower_enters next class path at old found.noted new.noted put (λ y p. inl (tied at y w.leads (w.led y p))) w.lower;
        closed = w.closed;
        each = rw s.entered (λ x m. elim (was_set found.entered at x m) [
          | inl e ↦ inr (subst (λ z. On (at ∷ path) z) (sym e) top)
          | inr o ↦ elim (w.each x o) [ inl e ↦ inl e | inr p ↦ inr (under p) ]
        ]);
        all = rw s.entered (λ x p. elim (on_cases p) [
          | inl e ↦ rw e (newly_set found.entered at s.room)
          | inr q ↦ still_set found.entered at x s.room (w.all x q)
        ]);
        kept = rw s.entered (record {
          each = λ x m. still_set found.entered at x s.room (w.kept.each x m);
        });
        fresh = marked (get_or first (get_or next at 0) false) (λ m. clash _ (w.closed.each at fits m) w.fresh);
        leads = inr (elim w.leads [ inl e ↦ subst (λ z. After next z (get_or next at 0)) e (one refl) | inr a ↦ then_next a ]);
        led = λ x p. elim (on_cases p) [ inl e ↦ subst (λ z. (z ≡ from) ⊎ After next from z) (sym e) w.leads | inr q ↦ w.led x q ];
        on = λ x p. elim (on_cases p) [
          | inl e ↦ inr (ap (λ z. get_or next z 0) e)
          | inr q ↦ elim (w.on x q) [ inl r ↦ inl (under r) | inr e ↦ inl (subst (λ z. On (at ∷ path) z) (sym e) top) ]
        ];
        start = inr (elim w.start [ inl s ↦ subst (λ z. On (at ∷ path) z) s.0 top | inr p ↦ under p ]);
      }

  -- if `at` is entered already, the whole cycle is on the path
  pub gathered : (first : List Bool) (at : ℕ) (xs : List ℕ) (found : Findings) → length found.entered ≡ length next
      → get_or found.entered at false ≡ true → IsRounding next class first from at (reverse xs) found
      → IsGathered next class from xs found
  gathered first at xs found sized m w =
      let here : On (reverse xs) at = elim (w.each at m) [ inl e ↦ absurd (clash _ e w.fresh) | inr p ↦ p ] in
      let round : (x : ℕ) → On (reverse xs) x → On (reverse xs) (get_or next x 0) =
      λ x p. elim (w.on x p) [ inl q ↦ q | inr e ↦ subst (λ z. On (reverse xs) z) (sym e) here ] in
      record {
        start = elim w.start [ inl s ↦ on_reversed xs (subst (λ z. On (reverse xs) z) s.0 here) | inr p ↦ on_reversed xs p ];
        is = record {
          inside = λ x p. (let l = w.spare.inside x p in let few = classes.sized in omega arith);
          round = round;
          tied = λ x y p q. tied x y (w.led x p) (w.led y q);
        };
        right = record {
          lowest = w.lowest;
          spare = w.spare;
          compared = record {
            sized = sized;
            low = λ x y n a e l. elim (w.each x n) [
              | inl f ↦ w.compared.low x y f a e l
              | inr p ↦ w.spare.each x y p (goes_round round a p)
                  e l
            ];
            high = λ x y n a e l. elim (w.each x n) [
              | inl f ↦ w.compared.high x y f a e l
              | inr p ↦ w.spare.each y x (goes_round round a p)
                  p (sym e) l
            ];
          };
          lower = w.lower;
          closed = λ x l n. elim (w.each (get_or next x 0) n) [
            | inl e ↦ inl (w.kept.each x (w.closed.each x l e))
            | inr p ↦ inr
                (on_reversed xs p)
          ];
        };
        all = λ x p. w.all x (on_reverse p);
      }

-- nothing is left of a list beyond its end
pub drop_past : (xs : List ℕ) (k : ℕ) → length xs ≤ k → drop k xs ≡ []
drop_past [] zero l = refl
drop_past [] (suc k) l = refl
drop_past (x ∷ xs) zero l = absurd (omega arith)
drop_past (x ∷ xs) (suc k) l = drop_past xs k (omega arith)

-- a cycle that is being removed from the path: a class has no lowest, or still a point in the rest
pub record IsClearing (class low rest : List ℕ) : Type 0 where
  pub sized : length low ≡ length class
  pub each : (c : ℕ) → c < length class → (get_or low c 0 ≡ length class) ⊎ ((x : ℕ) × On rest x × (get_or class x 0 ≡ c))

-- at first all points of the cycle are still to be cleared
pub clears_none : (class low cycle : List ℕ) → IsLow class low (reverse cycle) → IsClearing class low cycle
clears_none class low cycle w = record {
  sized = w.sized;
  each = λ c l. elim ((w.each c l).there) [ inl e ↦ inl e | inr o ↦ inr (get_or low c 0, on_reversed cycle o.0, o.1) ];
}

-- if the class of a point is set to no lowest, that point is cleared
pub clears_more : (class low cycle : List ℕ) (turn : ℕ) → turn < length cycle
    → get_or class (get_or cycle turn 0) 0 < length class → IsClearing class low (drop turn cycle)
    → IsClearing class (set low (get_or class (get_or cycle turn 0) 0) (length class)) (drop (turn + 1) cycle)
clears_more class low cycle turn l k w = record {
  sized = length-set low _ _ ∙ w.sized;
  each = λ c b. let v = get_or class (get_or cycle turn 0) 0 in elim (cases_eq c v) [
    | inl e ↦ inl (rw e (get_or-set_same low v (length class) 0 (let s = w.sized in omega arith)))
    | inr d ↦ elim (w.each c b) [
      | inl e ↦ inl (get_or-set_other low v c (length class) 0 d ∙ e)
      | inr o ↦ elim (on_cases (subst (λ p. On p o.0) (drop_turn cycle turn l) o.1)) [
        | inl e ↦ absurd (d (sym o.2 ∙ ap (λ z. get_or class z 0) e))
        | inr p ↦ inr (o.0, p, o.2)
      ]
    ]
  ];
}

-- if all points are cleared, no class has a lowest on the path
pub clears_all : (class low : List ℕ) → IsClearing class low [] → IsLow class low []
clears_all class low w = record {
  sized = w.sized;
  each = λ c l. record {
    there = elim (w.each c l) [ inl e ↦ inl e | inr o ↦ absurd (elim o.1 [ ]) ];
    least = λ y o e. absurd (elim o [ ]);
  };
}

-- nothing has been entered or noted, and no class has a lowest on the path
pub record IsBlank (next class : List ℕ) (found : Findings) : Type 0 where
  pub classed : length class ≡ length next
  pub entered_sized : length found.entered ≡ length next
  pub noted_sized : length found.noted ≡ length class
  pub low_sized : length found.low ≡ length class
  pub none_entered : (x : ℕ) → get_or found.entered x false ≡ false
  pub none_noted : (x : ℕ) → get_or found.noted x false ≡ false
  pub none_low : (c : ℕ) → c < length class → get_or found.low c 0 ≡ length class

-- if nothing has been entered or noted, what has been found is right
pub nothing : (next class : List ℕ) (found : Findings) → IsBlank next class found → IsFound next class [] [] found
nothing next class found b = record {
  lowest = record {
    sized = b.low_sized;
    each = λ c l. record { there = inl (b.none_low c l); least = λ y o e. absurd (elim o [ ]) };
  };
  spare = record { sized = b.noted_sized; inside = λ x o. absurd (elim o [ ]); each = λ x y o p e l. absurd (elim o [ ]) };
  compared = record {
    sized = b.entered_sized;
    low = λ u v m a e l. absurd (clash _ m (b.none_entered u));
    high = λ u v m a e l. absurd (clash _ m (b.none_entered u));
  };
  lower = record { each = λ u m. absurd (clash _ m (b.none_noted u)) };
  closed = λ u l m. absurd (clash _ m (b.none_entered (get_or next u 0)));
}

-- a cycle is left, if all that leads to it has been entered
pub left : (next class cycle : List ℕ) (found new : Findings) → IsFound next class cycle [] found → Clears class found new
    → IsFound next class [] [] new
left next class cycle found new f c = record {
  lowest = c.low;
  spare = rw c.noted (record { sized = f.spare.sized; inside = λ x o. absurd (elim o [ ]); each = λ x y o p e l. absurd (elim o [ ]) });
  compared = rw (c.entered, c.noted) f.compared;
  lower = rw c.noted f.lower;
  closed = rw c.entered f.closed;
}
