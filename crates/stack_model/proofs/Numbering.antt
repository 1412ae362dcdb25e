-- Numbers and places are in one-to-one correspondence. Each place is noted once (`once_nodes`), so it has the number of its position, and
-- no other (`number_used`); the places noted are those of entries, and of all of them (`number_listed`, `entries_numbered`); the first is
-- the root's (`root_first`).
use Rattle.std.proofs.Common.{◌≡◌, ◌∙◌, sym, ap, ℕ, zero, suc, ◌+◌, ◌<◌, ◌≤◌, ◌⊎◌, ◌↔◌, inl, inr, List, [], ◌∷◌, ◌++◌, length, map, Bool, true, false, ◌||◌, Some, IsSome, cond, refl, arith}
use Rattle.std.specs.Prelude.{slice_get, fold, nat_eq}
use Rattle.std.specs.List.{list_any, position_from, AllByRecursion}
use Rattle.std.specs.declared.cmp.Ordering.TheVariants.{Less}
use Rattle.std.proofs.lemmas.Bool.{eqb-true, eq-eqb, and_parts, or_cases}
use Rattle.std.proofs.lemmas.List.Folds.{list_any-append}
use Rattle.stack_model.specs.Listing.{Entry, path_cmp, IsAmong, IsListing}
use Rattle.stack_model.specs.Numbers.{Place, place, same_place, noted, nodes, number_of, node_of}

same_itself : (p : Place) → same_place p p ≡ true
same_itself p = rw (eq-eqb p.0 p.0 refl, eq-eqb p.1 p.1 refl) refl

same_is : (p q : Place) → same_place p q ≡ true → p ≡ q
same_is p q e = let b = and_parts (nat_eq p.0 q.0) (nat_eq p.1 q.1) e in let f = eqb-true p.0 q.0 b.0 in
    let g = eqb-true p.1 q.1 b.1 in ap (λ x. (x, p.1)) f ∙ ap (λ y. (q.0, y)) g

-- no place occurs twice
abbrev Once : List Place → Type 0
Once [] = Unit {0}
Once (p ∷ ps) = (list_any (same_place p) ps ≡ false) × Once ps

found_at : (n m : ℕ) (p : Place) (ps : List Place) → position_from (same_place p) n ps ≡ Some m → (k : ℕ) × (m ≡ n + k)
    × (slice_get ps k ≡ Some p)
found_at n m p [] e = absurd (cc)
found_at n m p (q ∷ ps) e = go (same_place p q) refl (found_at (n + 1) m p ps)
  where
    go : (b : Bool) → same_place p q ≡ b
        → (position_from (same_place p) (n + 1) ps ≡ Some m → (k : ℕ) × (m ≡ n + 1 + k) × (slice_get ps k ≡ Some p))
        → (k : ℕ) × (m ≡ n + k) × (slice_get (q ∷ ps) k ≡ Some p)
    go true f later = (zero, (let g = rw f at e in let h : m ≡ n = cc in omega arith), ap Some (sym (same_is p q f)))
    go false f later = let r = later (rw f at e) in (suc r.0, omega (arith, r.1), r.2)

any_at : (p : Place) (ps : List Place) (k : ℕ) → slice_get ps k ≡ Some p → list_any (same_place p) ps ≡ true
any_at p [] k e = absurd (cc)
any_at p (q ∷ ps) zero e = let i : q ≡ p = cc in rw (i, same_itself p) refl
any_at p (q ∷ ps) (suc k) e = rw (any_at p ps k e) (either (same_place p q))
  where
    either : (b : Bool) → (b || true) ≡ true
    either true = refl
    either false = refl

other_place : (p q : Place) (ps : List Place) (k : ℕ) → list_any (same_place q) ps ≡ false
    → slice_get ps k ≡ Some p → (b : Bool) → same_place p q ≡ b → b ≡ false
other_place p q ps k o e false f = refl
other_place p q ps k o e true f = let i : p ≡ q = same_is p q f in let a = any_at q ps k (e ∙ ap Some i) in cc

at_found : (n k : ℕ) (p : Place) (ps : List Place) → Once ps → slice_get ps k ≡ Some p → position_from (same_place p) n ps ≡ Some (n + k)
at_found n k p [] o e = absurd (cc)
at_found n zero p (q ∷ ps) o e = let i : q ≡ p = cc in rw (i, same_itself p) (ap Some (omega arith))
at_found n (suc k) p (q ∷ ps) o e = rw (other_place p q ps k o.0 e (same_place p q) refl) (at_found (n + 1) k p ps o.1 e
    ∙ ap Some (omega arith))

-- adding a place that is missing keeps each once
once_more : (ps : List Place) (p : Place) → Once ps → list_any (same_place p) ps ≡ false → Once (ps ++ p ∷ [])
once_more [] p o f = (refl, tt)
once_more (q ∷ ps) p o f = (
  list_any-append (same_place q) ps (p ∷ []) ∙ rw (o.0, apart (same_place p q) refl) refl,
  once_more ps p o.1 (rest (same_place p q) (list_any (same_place p) ps) f),
)
  where
    rest : (x y : Bool) → (x || y) ≡ false → y ≡ false
    rest true y e = absurd (cc)
    rest false y e = e

    first : (x y : Bool) → (x || y) ≡ false → x ≡ false
    first true y e = e
    first false y e = refl

    apart : (b : Bool) → same_place p q ≡ b → same_place q p ≡ false
    apart true e = let z = first (same_place p q) (list_any (same_place p) ps) f in absurd (cc)
    apart false e = turned (same_place q p) refl
      where
        turned : (b : Bool) → same_place q p ≡ b → b ≡ false
        turned false g = refl
        turned true g = let i : q ≡ p = same_is q p g in let z : same_place p q ≡ true = rw i (same_itself p) in cc

once_noted : (ps : List Place) (p : Place) → Once ps → Once (noted ps p)
once_noted ps p o = go (list_any (same_place p) ps) refl
  where
    go : (b : Bool) → list_any (same_place p) ps ≡ b → Once (cond b ps (ps ++ p ∷ []))
    go true e = o
    go false e = once_more ps p o e

once_all : (ps qs : List Place) → Once ps → Once (fold noted ps qs)
once_all ps [] o = o
once_all ps (q ∷ qs) o = once_all (noted ps q) qs (once_noted ps q o)

-- noted places stay, and the last one is among them
stays_any : (ps : List Place) (p q : Place) → list_any (same_place p) ps ≡ true → list_any (same_place p) (noted ps q) ≡ true
stays_any ps p q e = go (list_any (same_place q) ps)
  where
    go : (b : Bool) → list_any (same_place p) (cond b ps (ps ++ q ∷ [])) ≡ true
    go true = e
    go false = list_any-append (same_place p) ps (q ∷ []) ∙ rw e refl

is_noted : (ps : List Place) (p : Place) → list_any (same_place p) (noted ps p) ≡ true
is_noted ps p = go (list_any (same_place p) ps) refl
  where
    go : (b : Bool) → list_any (same_place p) ps ≡ b → list_any (same_place p) (cond b ps (ps ++ p ∷ [])) ≡ true
    go true e = e
    go false e = list_any-append (same_place p) ps (p ∷ []) ∙ rw (e, same_itself p) refl

stays_all : (ps qs : List Place) (p : Place) → list_any (same_place p) ps ≡ true → list_any (same_place p) (fold noted ps qs) ≡ true
stays_all ps [] p e = e
stays_all ps (q ∷ qs) p e = stays_all (noted ps q) qs p (stays_any ps p q e)

all_noted : (e : Entry) (es : List Entry) (ps : List Place) → IsAmong e es → list_any (same_place (place e)) (fold noted ps (map place es))
    ≡ true
all_noted e [] ps a = elim a [ ]
all_noted e (f ∷ fs) ps (inl i) = rw i (stays_all (noted ps (place f)) (map place fs) (place f) (is_noted ps (place f)))
all_noted e (f ∷ fs) ps (inr a) = all_noted e fs (noted ps (place f)) a

-- a place that is noted was noted before, or is the new one
noted_from : (ps : List Place) (p q : Place) → list_any (same_place p) (noted ps q) ≡ true → (list_any (same_place p) ps ≡ true) ⊎ (q ≡ p)
noted_from ps p q = go (list_any (same_place q) ps)
  where
    last : list_any (same_place p) (q ∷ []) ≡ true → q ≡ p
    last e = elim (or_cases (same_place p q) false e) [ inl f ↦ sym (same_is p q f) | inr f ↦ absurd (cc) ]

    go : (b : Bool) → list_any (same_place p) (cond b ps (ps ++ q ∷ [])) ≡ true → (list_any (same_place p) ps ≡ true) ⊎ (q ≡ p)
    go true e = inl e
    go false e = elim (or_cases _ _ (sym (list_any-append (same_place p) ps (q ∷ [])) ∙ e)) [ inl f ↦ inl f | inr f ↦ inr (last f) ]

-- a place among all that are noted was noted before, or is an entry's
from_entry : (es : List Entry) (ps : List Place) (p : Place)
    → list_any (same_place p) (fold noted ps (map place es)) ≡ true
    → (list_any (same_place p) ps ≡ true) ⊎ ((e : Entry) × IsAmong e es × (place e ≡ p))
from_entry [] ps p i = inl i
from_entry (f ∷ fs) ps p i = elim (from_entry fs (noted ps (place f)) p i) [
  | inr (e, a, q) ↦ inr (e, inr a, q)
  | inl x ↦ elim (noted_from ps p (place f) x) [ inl y ↦ inl y | inr q ↦ inr (f, inl refl, q) ]
]

some_position : (n : ℕ) (p : Place) (ps : List Place) → list_any (same_place p) ps ≡ true
    → (m : ℕ) × (position_from (same_place p) n ps ≡ Some m)
some_position n p [] e = absurd (cc)
some_position n p (q ∷ ps) e = go (same_place p q) refl (some_position (n + 1) p ps)
  where
    go : (b : Bool) → same_place p q ≡ b
        → (list_any (same_place p) ps ≡ true → (m : ℕ) × (position_from (same_place p) (n + 1) ps ≡ Some m))
        → (m : ℕ) × (position_from (same_place p) n (q ∷ ps) ≡ Some m)
    go true f later = (n, rw f refl)
    go false f later = let r = later (rw f at e) in (r.0, rw f r.1)

-- the first place stays the first
first_stays : (p : Place) (ps qs : List Place) → (rs : List Place) × (fold noted (p ∷ ps) qs ≡ p ∷ rs)
first_stays p ps [] = (ps, refl)
first_stays p ps (q ∷ qs) = go (list_any (same_place q) (p ∷ ps)) (λ rs. first_stays p rs qs)
  where
    go : (b : Bool) → ((rs : List Place) → (ts : List Place) × (fold noted (p ∷ rs) qs ≡ p ∷ ts))
        → (ts : List Place) × (fold noted (cond b (p ∷ ps) ((p ∷ ps) ++ q ∷ [])) qs ≡ p ∷ ts)
    go true later = later ps
    go false later = later (ps ++ q ∷ [])

once_nodes : (entries : List Entry) → Once (nodes entries)
unfolding nodes
once_nodes entries = once_all [] (map place entries) tt

-- a place has a number exactly if the node of that number is the place
pub number_used : (entries : List Entry) (n : ℕ) (p : Place) → (number_of entries p ≡ Some n) ↔ (node_of entries n ≡ Some p)
unfolding number_of
number_used entries n p = (there, back n)
  where
    there : position_from (same_place p) 1 (nodes entries) ≡ Some n → node_of entries n ≡ Some p
    there e = let r = found_at 1 n p (nodes entries) e in let s : n ≡ suc r.0 = omega (arith, r.1) in rw s r.2

    back : (n : ℕ) → node_of entries n ≡ Some p → position_from (same_place p) 1 (nodes entries) ≡ Some n
    back zero e = absurd (cc)
    back (suc k) e = at_found 1 k p (nodes entries) (once_nodes entries) e ∙ ap Some (omega arith)

-- the numbers in use are those from 1 to how many nodes there are
pub numbers_all : (entries : List Entry) (n : ℕ) → IsSome (node_of entries n) ↔ ((1 ≤ n) × (n ≤ length (nodes entries)))
numbers_all entries zero = (λ s. absurd (cc), λ b. absurd (let l = b.0 in omega arith))
numbers_all entries (suc n) = (within (nodes entries) n, λ b. there (nodes entries) n (let l = b.1 in omega arith))
  where
    there : (ps : List Place) (k : ℕ) → k < length ps → IsSome (slice_get ps k)
    there [] k l = absurd (omega arith)
    there (p ∷ ps) zero l = refl
    there (p ∷ ps) (suc k) l = there ps k (omega arith)

    under : (ps : List Place) (k : ℕ) → IsSome (slice_get ps k) → k < length ps
    under [] k s = absurd (cc)
    under (p ∷ ps) zero s = omega arith
    under (p ∷ ps) (suc k) s = let l = under ps k s in omega arith

    within : (ps : List Place) (k : ℕ) → IsSome (slice_get ps k) → (1 ≤ suc k) × (suc k ≤ length ps)
    within ps k s = let l = under ps k s in (omega arith, omega arith)

-- a number in use is that of an entry's place
pub number_listed : (entries : List Entry) (n : ℕ) (p : Place) → node_of entries n ≡ Some p → (e : Entry) × IsAmong e entries
    × (place e ≡ p)
unfolding nodes
number_listed entries zero p e = absurd (cc)
number_listed entries (suc k) p e = elim (from_entry entries [] p (any_at p (nodes entries) k e)) [ inl f ↦ absurd (cc) | inr x ↦ x ]

numbered : (entries : List Entry) (e : Entry) → IsAmong e entries → (m : ℕ) × (number_of entries (place e) ≡ Some m)
unfolding number_of nodes
numbered entries e a = some_position 1 (place e) (nodes entries) (all_noted e entries [] a)

-- each entry's place has a number, and two have one number exactly if they are one place
pub entries_numbered : (entries : List Entry) (e f : Entry) → IsAmong e entries → IsAmong f entries
    → IsSome (number_of entries (place e))
    × ((number_of entries (place e) ≡ number_of entries (place f)) ↔ (place e ≡ place f))
entries_numbered entries e f a b =
    let m = numbered entries e a in
    let n = numbered entries f b in
    (rw (m.1) refl, (λ i. one m.0 m.1 (sym i ∙ m.1), λ i. ap (number_of entries) i))
  where
    one : (m : ℕ) → number_of entries (place e) ≡ Some m → number_of entries (place f) ≡ Some m → place e ≡ place f
    one m i j = let x = (number_used entries m (place e)).0 i in
        let y = (number_used entries m (place f)).0 j in
        let z : Some (place e) ≡ Some (place f) = sym x ∙ y in cc

-- the place of the root has the number 1
pub root_first : (layers : List (List ℕ)) (entries : List Entry) (e : Entry) → IsListing layers entries
    → IsAmong e entries → e.path ≡ [] → number_of entries (place e) ≡ Some 1
unfolding number_of nodes
root_first layers [] e l a p = elim a [ ]
root_first layers (f ∷ fs) e l a p = let i : e ≡ f =
    elim a [ inl i ↦ i | inr b ↦ absurd (lower f.path (rw p at (after fs l.rising.0 b))) ] in rw i (begins f fs)
  where
    lower : (q : List (List ℕ)) → path_cmp q [] ≡ Less → ⊥
    lower [] g = cc
    lower (n ∷ q) g = cc

    after : (es : List Entry) → AllByRecursion (λ g. path_cmp f.path g.path ≡ Less) es → IsAmong e es → path_cmp f.path e.path ≡ Less
    after [] r b = elim b [ ]
    after (g ∷ gs) r (inl i) = rw i r.0
    after (g ∷ gs) r (inr b) = after gs r.1 b

    begins : (f : Entry) (fs : List Entry) → number_of (f ∷ fs) (place f) ≡ Some 1
    begins f fs = let r = first_stays (place f) [] (map place fs) in rw (r.1, same_itself (place f)) refl

-- the relation of numbers and places
pub ruleset numbering = (root_first, number_used, number_listed, numbers_all, entries_numbered)
