-- A climb as a whole: the path that its steps are on, and what is still to be entered
-- (`IsUnderWay`). It begins with no steps (`begins`), skips what was entered, enters and leaves
-- points, and if it is over, all that leads to the point `bottom` has been entered (`ends`).
use Rattle.std.proofs.Common.{◌≡◌, ◌∙◌, sym, ap, subst, ℕ, zero, suc, ◌+◌, ◌<◌, ◌≤◌, ◌⊎◌, inl, inr, List, [], ◌∷◌, length, get_or, set, drop, reverse, ◌++◌, Bool, true, false, refl, arith}
use Rattle.std.proofs.lemmas.List.{get_or-set_other, reverse-append, reverse-reverse}
use Rattle.std.proofs.Math.Seq.{drop-cons}
use Rattle.std.proofs.Math.Numerals.{add-one}
use Rattle.std.proofs.lemmas.Bool.{cases_eq}
use Rattle.romfs_sets.specs.declared.climb.Step.{Step}
use Rattle.romfs_sets.specs.Climb.{After, one, more, On, top, under, IsLowest, IsLow, IsSpare, IsCompared, AreLower, Ahead, here, later, Points, IsGraph, Findings, Enters, IsCycle, IsFound, IsSkipped, AreMarksKept}
use Rattle.romfs_sets.proofs.Marks.{newly_set, still_set}
use Rattle.romfs_sets.proofs.Climbing.{Covers, IsPut, covers_next, after_next, low_enters, low_leaves, spare_enters, compared_enters, lower_enters}

-- the path that the steps, the last first, are on
abbrev pub path : List ℕ → List Step → List ℕ
path cycle [] = cycle
path cycle (s ∷ steps) = s.at ∷ path cycle steps

-- the point whose predecessors are entered
abbrev pub top_of : ℕ → List Step → ℕ
top_of bottom [] = bottom
top_of bottom (s ∷ steps) = s.at

-- steps at points that each lead to the one below; each keeps what was lowest of its class there
pub data Tower (next class cycle : List ℕ) (bottom : ℕ) : List Step → Type 0 where
  bare : Tower next class cycle bottom []
  over : {s : Step} {steps : List Step} → Tower next class cycle bottom steps → s.at < length next
      → get_or next s.at 0 ≡ top_of bottom steps
      → IsLowest class (path cycle steps) (length class) (get_or class s.at 0) s.low → Tower next class cycle bottom (s ∷ steps)

-- x is on the list that one of the steps has still to come to
pub data Waits (sibling : List ℕ) : List Step → ℕ → Type 0 where
  now : {s : Step} {steps : List Step} {x : ℕ} → Ahead sibling (get_or sibling s.at 0) x → Waits sibling (s ∷ steps) x
  then : {s : Step} {steps : List Step} {x : ℕ} → Waits sibling steps x → Waits sibling (s ∷ steps) x

-- a climb under way to what leads to `bottom`; the list of those to be entered next begins at
-- `from`
pub record IsUnderWay (p : Points) (cycle rest : List ℕ) (bottom from : ℕ) (steps : List Step) (found : Findings) : Type 0 where
  pub tower : Tower p.next p.class cycle bottom steps
  pub lowest : IsLow p.class found.low (path cycle steps)
  pub spare : IsSpare p.class (path cycle steps) found.noted
  pub compared : IsCompared p.next p.class found.entered found.noted
  pub lower : AreLower p.next p.class found.noted
  pub leads : (x : ℕ) → Ahead p.sibling from x → get_or p.next x 0 ≡ top_of bottom steps
  pub closed : (x : ℕ) → x < length p.next → get_or found.entered (get_or p.next x 0) false ≡ true
      → (get_or found.entered x false ≡ true)
      ⊎ (Ahead p.sibling from x ⊎ (Waits p.sibling steps x ⊎ On rest (get_or p.next x 0)))

on_left : {y : ℕ} {xs : List ℕ} (ys : List ℕ) → On xs y → On (xs ++ ys) y
on_left ys top = top
on_left ys (under o) = under (on_left ys o)

on_right : {y : ℕ} (xs : List ℕ) {ys : List ℕ} → On ys y → On (xs ++ ys) y
on_right [] o = o
on_right (x ∷ xs) o = under (on_right xs o)

-- what is on a path is on it reversed
pub on_reverse : {y : ℕ} {xs : List ℕ} → On xs y → On (reverse xs) y
on_reverse {y = y} (top {path = xs}) = subst (λ p. On p y) (sym (reverse-append (y ∷ []) xs)) (on_right (reverse xs) top)
on_reverse {y = y} (under {x = x} {path = xs} o) = subst (λ p. On p y) (sym (reverse-append (x ∷ []) xs)) (on_left (x ∷ []) (on_reverse o))

-- what is on a path reversed is on the path
pub on_reversed : {y : ℕ} (xs : List ℕ) → On (reverse xs) y → On xs y
on_reversed {y = y} xs o = subst (λ p. On p y) (reverse-reverse xs) (on_reverse o)

on_at : (xs : List ℕ) (k : ℕ) → k < length xs → On xs (get_or xs k 0)
on_at [] k l = absurd (omega arith)
on_at (x ∷ xs) zero l = top
on_at (x ∷ xs) (suc k) l = under (on_at xs k (omega arith))

-- each point of a cycle is on it reversed
pub on_turn : (cycle : List ℕ) (turn : ℕ) → turn < length cycle → On (reverse cycle) (get_or cycle turn 0)
on_turn cycle turn l = on_reverse (on_at cycle turn l)

-- what is left of a cycle from a turn on is the point of that turn, and what the next turn leaves
pub drop_turn : (cycle : List ℕ) (turn : ℕ) → turn < length cycle → drop turn cycle ≡ get_or cycle turn 0 ∷ drop (turn + 1) cycle
drop_turn cycle turn l = rw add-one (drop-cons cycle turn 0 l)

-- a list with one more at its end, reversed, begins with that one
pub reverse_push : {X : Type 0} (xs : List X) (x : X) → reverse (xs ++ x ∷ []) ≡ x ∷ reverse xs
reverse_push xs x = reverse-append xs (x ∷ [])

-- a list from whose end one was taken, reversed, begins with that one
pub popped : {X : Type 0} (xs rest : List X) (x : X) → xs ≡ rest ++ x ∷ [] → reverse xs ≡ x ∷ reverse rest
popped xs rest x e = ap reverse e ∙ reverse_push rest x

-- an empty list reversed is empty
pub no_steps : {X : Type 0} (xs : List X) → length xs ≡ 0 → reverse xs ≡ []
no_steps [] e = refl
no_steps (x ∷ xs) e = absurd (omega arith)

-- marks that were kept stay kept if one more is set
pub keeps : (before entered : List Bool) (at : ℕ) → at < length entered → AreMarksKept before entered
    → AreMarksKept before (set entered at true)
keeps before entered at l k = record {
  each = λ x m. still_set entered at x l (k.each x m);
}

-- the last step of a climb is at a point of the graph
pub step_fits : {p : Points} {cycle rest : List ℕ} {bottom from : ℕ} {s : Step} {steps : List Step} {found : Findings}
    → IsUnderWay p cycle rest bottom from (s ∷ steps) found → s.at < length p.next
step_fits {p = p} {cycle = cycle} {bottom = bottom} {s = s} {steps = steps} w = go w.tower
  where
    go : Tower p.next p.class cycle bottom (s ∷ steps) → s.at < length p.next
    go (over t i e l) = i

ahead_cases : {sibling : List ℕ} {from x : ℕ} → Ahead sibling from x → (x ≡ from) ⊎ Ahead sibling (get_or sibling from 0) x
ahead_cases (here l) = inl refl
ahead_cases (later l a) = inr a

-- if `at` is entered, skipping goes on to the next of its list
pub skips_on : (sibling : List ℕ) (entered : List Bool) (from at : ℕ) → at < length sibling
    → get_or entered at false ≡ true → IsSkipped sibling entered from at
    → IsSkipped sibling entered from (get_or sibling at 0)
skips_on sibling entered from at l m s = record {
  each = λ x a. s.each x (later l a);
  all = λ x a. elim (s.all x a) [
    | inl e ↦ inl e
    | inr b ↦ elim (ahead_cases b) [ inl e ↦ inl (rw e m) | inr d ↦ inr d ]
  ];
}

ahead_then : {sibling : List ℕ} {from u x : ℕ} → Ahead sibling from u → Ahead sibling (get_or sibling u 0) x → Ahead sibling from x
ahead_then (here l) a = later l a
ahead_then (later l b) a = later l (ahead_then b a)

ahead_low : {sibling : List ℕ} {from x : ℕ} → Ahead sibling from x → from < length sibling
ahead_low (here l) = l
ahead_low (later l a) = l

waits_cases : {sibling : List ℕ} {s : Step} {steps : List Step} {x : ℕ} → Waits sibling (s ∷ steps) x
    → Ahead sibling (get_or sibling s.at 0) x ⊎ Waits sibling steps x
waits_cases (now a) = inl a
waits_cases (then w) = inr w

rest_cases : {b x : ℕ} {rest : List ℕ} → On (b ∷ rest) x → (x ≡ b) ⊎ On rest x
rest_cases top = inl refl
rest_cases (under o) = inr o

-- a cycle, and a point of it
pub record IsRing (next cycle : List ℕ) (bottom : ℕ) : Type 0 where
  pub is : IsCycle next cycle
  pub on : On cycle bottom

module _ (p : Points) (graph : IsGraph p) (cycle : List ℕ) (bottom : ℕ) (ring : IsRing p.next cycle bottom) where
  covers_ring : (u : ℕ) → get_or p.next u 0 ≡ bottom → Covers p.next cycle u
  covers_ring u e = record {
    on = λ y a. elim (after_next a) [
      | inl f ↦ subst (λ z. On cycle z) (sym e ∙ f) ring.on
      | inr b ↦ around b (subst (λ z. On cycle z) (sym e) ring.on)
    ];
    after = λ y o. more e (ring.is.tied bottom y ring.on o);
  }
    where
      around : {x y : ℕ} → After p.next x y → On cycle x → On cycle y
      around (one e) o = subst (λ z. On cycle z) e (ring.is.round _ o)
      around (more e a) o = around a (subst (λ z. On cycle z) e (ring.is.round _ o))

  -- what comes after a point that leads to the top is the path
  covers : {steps : List Step} → Tower p.next p.class cycle bottom steps → (u : ℕ) → get_or p.next u 0 ≡ top_of bottom steps
      → Covers p.next (path cycle steps) u
  covers bare u e = covers_ring u e
  covers (over {s = s} {steps = steps} t i e l) u f = covers_next p.next (path cycle steps) s.at u f (covers t s.at e)

  sibling_leads : (u x : ℕ) → u < length p.next → Ahead p.sibling (get_or p.sibling u 0) x → get_or p.next x 0 ≡ get_or p.next u 0
  sibling_leads u x l a = graph.lists.same (get_or p.next u 0) x (graph.leads.each u l) (ahead_then (graph.lists.whole u l) a)

  module _ (rest : List ℕ) where
    -- the climb to what leads to `bottom` begins with no steps, at the first of those points
    pub begins : (found : Findings) → IsFound p.next p.class cycle (bottom ∷ rest) found
        → IsUnderWay p cycle rest bottom (get_or p.first bottom 0) [] found
    begins found f = record {
      tower = bare;
      lowest = f.lowest;
      spare = f.spare;
      compared = f.compared;
      lower = f.lower;
      leads = λ x a. graph.lists.same bottom x (ring.is.inside bottom ring.on) a;
      closed = λ x l m. elim (f.closed x l m) [
        | inl e ↦ inl e
        | inr o ↦ elim (rest_cases o) [
          | inl e ↦ inr (inl (subst (λ t. Ahead p.sibling (get_or p.first t 0) x) e (graph.lists.whole x l)))
          | inr p ↦ inr (inr (inr p))
        ]
      ];
    }

    -- a climb under way stays so if entered points of the list are skipped
    pub skips : (from at : ℕ) (steps : List Step) (found : Findings) → IsSkipped p.sibling found.entered from at
        → IsUnderWay p cycle rest bottom from steps found → IsUnderWay p cycle rest bottom at steps found
    skips from at steps found s w = record {
      tower = w.tower;
      lowest = w.lowest;
      spare = w.spare;
      compared = w.compared;
      lower = w.lower;
      leads = λ x a. w.leads x (s.each x a);
      closed = λ x l m. elim (w.closed x l m) [
        | inl e ↦ inl e
        | inr (inl a) ↦ elim (s.all x a) [ inl e ↦ inl e | inr b ↦ inr (inl b) ]
        | inr (inr o) ↦ inr (inr o)
      ];
    }

    -- a point is entered as the last step, and what leads to it comes next
    pub enters : (s : Step) (steps : List Step) (found new : Findings) → Enters p.next p.class s.at s.low found new
        → IsUnderWay p cycle rest bottom s.at steps found
        → IsUnderWay p cycle rest bottom (get_or p.first s.at 0) (s ∷ steps) new
    enters s steps found new e w =
        let at = s.at in
        let fits = e.inside in
        let sized = graph.classes.sized in
        let siblings = graph.lists.siblings in
        let here_next : get_or p.next at 0 ≡ top_of bottom steps = w.leads at (here (omega arith)) in
        let cover : Covers p.next (path cycle steps) at = covers w.tower at here_next in
        let known : get_or p.class at 0 < length p.class = (let k = graph.classes.each at fits in omega arith) in
        let lowest : IsLowest p.class (path cycle steps) (length p.class) (get_or p.class at 0) s.low = subst
        (λ v. IsLowest p.class (path cycle steps) (length p.class) (get_or p.class at 0) v) (sym e.lowest_is)
        (w.lowest.each _ known) in
        let put : IsPut p.class (path cycle steps) at s.low found.noted new.noted = record {
          fits = omega arith;
          lowest = lowest;
          made = rw sized e.noted;
        } in
        let spare = spare_enters p.next p.class (path cycle steps) at s.low found.noted new.noted put w.spare in
        record {
          tower = over w.tower fits here_next lowest;
          lowest = rw (e.low, e.lowest_is) (low_enters p.class found.low (path cycle steps) at (omega arith) known w.lowest);
          spare = spare;
          compared = rw e.entered (compared_enters p.next p.class (path cycle steps) at s.low found.noted new.noted put cover found.entered
              e.room w.compared spare);
          lower = lower_enters p.next p.class (path cycle steps) at s.low found.noted new.noted put (λ y q. inl (cover.after y q))
              w.lower;
          leads = λ x a. graph.lists.same at x fits a;
          closed = rw e.entered (λ x l m. elim (cases_eq (get_or p.next x 0) at) [
            | inl f ↦ inr (inl (subst (λ t. Ahead p.sibling (get_or p.first t 0) x) f (graph.lists.whole x l)))
            | inr d ↦ elim (w.closed x l (sym (get_or-set_other found.entered at (get_or p.next x 0) true false d) ∙ m)) [
              | inl f ↦ inl (still_set found.entered at x e.room f)
              | inr (inl a) ↦ elim (ahead_cases a) [
                | inl f ↦ inl (rw f (newly_set found.entered at e.room))
                | inr b ↦ inr (inr (inl (now b)))
              ]
              | inr (inr (inl v)) ↦ inr (inr (inl (then v)))
              | inr (inr (inr q)) ↦ inr (inr (inr q))
            ]
          ]);
        }

    -- if a list is over, the last step is left: the climb goes on at its sibling
    pub leaves : (at : ℕ) (s : Step) (steps : List Step) (found : Findings) → length p.next ≤ at
        → IsUnderWay p cycle rest bottom at (s ∷ steps) found
        → IsUnderWay p cycle rest bottom (get_or p.sibling s.at 0) steps
        (record { entered = found.entered; noted = found.noted; low = set found.low (get_or p.class s.at 0) s.low })
    leaves at s steps found past w = go w.tower
      where
        go : Tower p.next p.class cycle bottom (s ∷ steps)
            → IsUnderWay p cycle rest bottom (get_or p.sibling s.at 0) steps
            (record { entered = found.entered; noted = found.noted; low = set found.low (get_or p.class s.at 0) s.low })
        go (over t i e l) =
            let sized = graph.classes.sized in
            let siblings = graph.lists.siblings in
            let named = graph.classes.each s.at i in
            record {
              tower = t;
              lowest = low_leaves p.class found.low (path cycle steps) s.at (omega arith) (omega arith) s.low l w.lowest;
              spare = record {
                sized = w.spare.sized;
                inside = λ x o. w.spare.inside x (under o);
                each = λ x y o p f k. w.spare.each x y (under o) (under p) f k;
              };
              compared = w.compared;
              lower = w.lower;
              leads = λ x a. sibling_leads s.at x i a ∙ e;
              closed = λ x k m. elim (w.closed x k m) [
                | inl f ↦ inl f
                | inr (inl a) ↦ absurd (let b = ahead_low a in omega arith)
                | inr (inr (inl v)) ↦ elim (waits_cases v) [ inl a ↦ inr (inl a) | inr y ↦ inr (inr (inl y)) ]
                | inr (inr (inr p)) ↦ inr (inr (inr p))
              ];
            }

    -- if the list is over and no step is left, all that leads to `bottom` has been entered
    pub ends : (at : ℕ) (found : Findings) → length p.next ≤ at → IsUnderWay p cycle rest bottom at [] found
        → IsFound p.next p.class cycle rest found
    ends at found past w = record {
      lowest = w.lowest;
      spare = w.spare;
      compared = w.compared;
      lower = w.lower;
      closed = λ x k m. elim (w.closed x k m) [
        | inl f ↦ inl f
        | inr (inl a) ↦ absurd (let b = ahead_low a in let siblings = graph.lists.siblings in omega arith)
        | inr (inr (inl v)) ↦ absurd (none_wait v)
        | inr (inr (inr p)) ↦ inr p
      ];
    }
      where
        none_wait : {x : ℕ} → ¬ Waits p.sibling [] x
        none_wait v = elim v [ ]
