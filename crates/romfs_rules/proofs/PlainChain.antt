-- The walk along one chain, as lists. Chained says what was passed before the next header (begun),
-- also once that is passed (steps), with the hash of its name (hashed_more); if there is no next
-- one, the whole chain was passed (ended).
use Rattle.std.proofs.Common.{◌≡◌, ◌∙◌, sym, ap, subst, ℕ, zero, suc, ◌+◌, ◌-◌, ◌/◌, ◌<◌, inl, inr, List, [], ◌∷◌, ◌++◌, length, get_or, set, not, Bool, true, false, Option, Some, None, refl, arith, length-append}
use Rattle.std.specs.List.{count_by}
use Rattle.std.proofs.lemmas.List.{length-set, get_or_at, get_or_append_left}
use Rattle.std.proofs.lemmas.Bool.{true≢false, cases_lt}
use Rattle.romfs_sets.proofs.Keyed.{below_or_at}
use Rattle.romfs_sets.specs.Names.{name_hash}
use Rattle.romfs_format.specs.Fields.{name}
use Rattle.romfs_format.specs.Chains.{IsFirst, IsNext, IsAt}
use Rattle.romfs_rules.specs.declared.plain.Folder.{Folder}
use Rattle.romfs_rules.specs.Leads.{IsTheOne}
use Rattle.romfs_rules.specs.Marks.{IsMarked}
use Rattle.romfs_rules.specs.Names.{kept_name, kept_names, AreNameHashes}
use Rattle.romfs_rules.specs.Plain.{IsPlainHeader, WalkState, IsPassed, PassesFront, PassesChain, AddsFolder}
use Rattle.romfs_rules.proofs.NameHashes.{one_hash}
use Rattle.romfs_rules.proofs.SameNaming.{kept}
use Rattle.romfs_sets.proofs.Marks.{unmarked, marks_fall, newly_set, still_set}

-- those without a mark are counted
pub counted : (marks : List Bool) → count_by not marks ≡ unmarked marks
unfolding unmarked
counted marks = refl

not_true : (b : Bool) → ¬ (b ≡ true) → b ≡ false
not_true true n = absurd (n refl)
not_true false n = refl

-- what holds of each place of a list, and of one more
pushed : (P : ℕ → ℕ → Type 0) (xs : List ℕ) (x : ℕ) → ((i : ℕ) → i < length xs → P i (get_or xs i 0)) → P (length xs) x
    → (i : ℕ) → i < length (xs ++ x ∷ []) → P i (get_or (xs ++ x ∷ []) i 0)
pushed P xs x old this i l = elim (below_or_at i (length xs) (let e = length-append xs (x ∷ []) in omega arith)) [
  | inl m ↦ subst (λ y. P i y) (sym (get_or_append_left xs (x ∷ []) 0 i m)) (old i m)
  | inr e ↦ subst (λ j. P j (get_or (xs ++ x ∷ []) j 0)) (sym e)
      (subst (λ y. P (length xs) y) (sym (get_or_at xs x [] 0 (length xs) refl)) this)
]

-- the headers before the next one were passed
pub record Chained (a : List ℕ) (w : Folder) (old new : WalkState) (next : Option ℕ) : Type 0 where
  pub front : PassesFront a w old new
  pub here : IsTheOne (IsAt a w.header (length new.heads)) next

module _ (a : List ℕ) (w : Folder) (old : WalkState) where
  -- before the first header none was passed
  pub begun : (heads hashes : List ℕ) (first : Option ℕ) → heads ≡ [] → IsTheOne (IsFirst a w.header) first
      → Chained a w old (record { marks = old.marks; todo = old.todo; heads = heads; hashes = hashes }) first
  begun heads hashes first e f = rw e (record {
    front = record {
      sized = refl;
      count = omega arith;
      each = λ i l. absurd (omega arith);
      apart = λ i j l. absurd (omega arith);
      kept = λ k m. m;
      waits = λ v c. c;
      inside = λ v c. inl c;
      few = omega arith;
    };
    here = f;
  })

  module _ (now : WalkState) (at : ℕ) (c : Chained a w old now (Some at)) where
    stands : IsAt a w.header (length now.heads) at
    stands = (c.here.each at).0 refl

    same_some : (x y : ℕ) → ◌≡◌ {A = Option ℕ} (Some x) (Some y) → x ≡ y
    same_some x y e = cc

    only : (h : ℕ) → IsAt a w.header (length now.heads) h → h ≡ at
    only h x = sym (same_some at h ((c.here.each h).1 x))

    goes_on : (next : Option ℕ) → IsTheOne (IsNext a at) next → IsTheOne (IsAt a w.header (suc (length now.heads))) next
    goes_on next n = record {
      each = λ g. (
        λ e. (at, stands, (n.each g).0 e),
        λ x. (n.each g).1 (subst (λ y. IsNext a y g) (only x.0 x.1) x.2),
      );
    }

    module _ (p : IsPlainHeader a w at) (fits : at / 16 < length now.marks)
        (free : get_or now.marks (at / 16) false ≡ false) (after : List Folder) (f : AddsFolder a w at now.todo after)
        (hashes : List ℕ) where
      abbrev more : List ℕ
      more = now.heads ++ at ∷ []

      abbrev marked_too : List Bool
      marked_too = set now.marks (at / 16) true

      -- the walk once that header is passed
      abbrev later : WalkState
      later = record { marks = marked_too; todo = after; heads = more; hashes = hashes }

      one_more : length more ≡ length now.heads + 1
      one_more = length-append now.heads (at ∷ [])

      grown : (i h : ℕ) → IsPassed a w old now i h → IsPassed a w old later i h
      grown i h x = record {
        at = x.at;
        plain = x.plain;
        unmarked = x.unmarked;
        marked = still_set now.marks (at / 16) (h / 16) fits x.marked;
        comes = λ n o. f.waits _ (x.comes n o);
      }

      itself : IsPassed a w old later (length now.heads) at
      itself = record {
        at = stands;
        plain = p;
        unmarked = not_true (get_or old.marks (at / 16) false) (λ m. true≢false (sym (c.front.kept (at / 16) m) ∙ free));
        marked = newly_set now.marks (at / 16) fits;
        comes = f.comes;
      }

      was : (i : ℕ) → i < length now.heads → get_or more i 0 ≡ get_or now.heads i 0
      was i l = get_or_append_left now.heads (at ∷ []) 0 i l

      last : (i : ℕ) → i ≡ length now.heads → get_or more i 0 ≡ at
      last i e = get_or_at now.heads at [] 0 i (sym e)

      new : (i : ℕ) → i < length now.heads → get_or now.heads i 0 ≡ at → ⊥
      new i l e = true≢false (sym (subst (λ y. IsMarked now.marks y) e (c.front.each i l).marked) ∙ free)

      apart : (i j : ℕ) → i < length more → j < length more → get_or more i 0 ≡ get_or more j 0 → i ≡ j
      apart i j l m e =
          let n = one_more in
          elim (below_or_at i (length now.heads) (omega arith)) [
            | inl x ↦ elim (below_or_at j (length now.heads) (omega arith)) [
              | inl y ↦ c.front.apart i j x y (sym (was i x) ∙ e ∙ was j y)
              | inr y ↦ absurd (new i x (sym (was i x) ∙ e ∙ last j y))
            ]
            | inr x ↦ elim (below_or_at j (length now.heads) (omega arith)) [
              | inl y ↦ absurd (new j y (sym (was j y) ∙ sym e ∙ last i x))
              | inr y ↦ x ∙ sym y
            ]
          ]

      -- the next header is passed if it is new and plain
      pub steps : (next : Option ℕ) → IsTheOne (IsNext a at) next → Chained a w old later next
      steps next n = record {
        front = record {
          sized = length-set now.marks (at / 16) true ∙ c.front.sized;
          count = (
              let e = one_more in
              let q = c.front.count in
              let r = marks_fall now.marks (at / 16) fits free in
              let s = counted now.marks in
              let t = counted marked_too in
              omega arith);
          each = pushed (λ i h. IsPassed a w old later i h) now.heads at
              (λ i l. grown i (get_or now.heads i 0) (c.front.each i l)) itself;
          apart = apart;
          kept = λ k m. still_set now.marks (at / 16) k fits (c.front.kept k m);
          waits = λ v x. f.waits v (c.front.waits v x);
          inside = λ v x. elim (f.inside v x) [ inl y ↦ c.front.inside v y | inr i ↦ inr i ];
          few = (let e = one_more in let q = c.front.few in let r = f.few in omega arith);
        };
        here = (
            let e : suc (length now.heads) ≡ length more = (let q = one_more in omega arith) in
            subst (λ m. IsTheOne (IsAt a w.header m) next) e (goes_on next n));
      }

  -- if no header is next, the whole chain was passed
  pub ended : (now : WalkState) → Chained a w old now None
      → AreNameHashes (kept_names a now.heads) (length now.heads) now.hashes → PassesChain a w old now
  ended now c m = record { front = c.front; hashed = m; whole = short }
    where
      none : (h : ℕ) → ¬ IsAt a w.header (length now.heads) h
      none h x = let e = (c.here.each h).1 x in cc

      under : (n i h : ℕ) → i ≡ length now.heads + n → ¬ IsAt a w.header i h
      under zero i h e x = none h (subst (λ k. IsAt a w.header k h) (let q = e in (omega arith)) x)
      under (suc n) zero h e x = absurd (omega arith)
      under (suc n) (suc i) h e x = under n i x.0 (omega arith) x.1

      short : (i h : ℕ) → IsAt a w.header i h → i < length now.heads
      short i h x = elim (cases_lt i (length now.heads)) [ inl l ↦ l | inr l ↦ absurd (under (i - length now.heads) i h (omega arith) x) ]

-- before the first header there is no name
pub none_hashed : (a heads hashes : List ℕ) → heads ≡ [] → hashes ≡ [] → AreNameHashes (kept_names a heads) (length heads) hashes
none_hashed a heads hashes e f = rw (e, f) (record { level = refl; each = λ k q l. absurd (omega arith) })

-- one header more has the hash of its name
pub hashed_more : (a : List ℕ) (at hash : ℕ) (heads hashes : List ℕ) → ((q : List ℕ) → name a at ≡ Some q → hash ≡ name_hash q)
    → AreNameHashes (kept_names a heads) (length heads) hashes
    → AreNameHashes (kept_names a (heads ++ at ∷ [])) (length (heads ++ at ∷ [])) (hashes ++ hash ∷ [])
hashed_more a at hash heads hashes own w =
    let more : List ℕ = heads ++ at ∷ [] in
    let names : ℕ → Option (List ℕ) = kept_names a more in
    let old : AreNameHashes names (length heads) hashes = record {
      level = w.level;
      each = λ k q l e. w.each k q l (ap (λ h. kept_name a h) (sym (get_or_append_left heads (at ∷ []) 0 k l)) ∙ e);
    } in
    let its : (q : List ℕ) → names (length heads) ≡ Some q → hash ≡ name_hash q = λ q e.
    own q (kept a at q (ap (λ h. kept_name a h) (sym (get_or_at heads at [] 0 (length heads) refl)) ∙ e)).1 in
    subst (λ n. AreNameHashes names n (hashes ++ hash ∷ [])) (sym (length-append heads (at ∷ [])))
    (one_hash names (length heads) hash hashes (hashes ++ hash ∷ []) its refl old)
