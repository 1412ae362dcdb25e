-- Places numbered one after another. IsNumbered is the loop over visits: it begins with none, and a visit has a place with a number
-- (was_known) or a new one (is_new). The first place of its key says which of the two it is, and the number (taken_from_first). If each
-- visit's place is new, the numbers are those from 1 on (numbered_apart).
use Rattle.std.proofs.Common.{◌≡◌, ◌≢◌, ◌∙◌, sym, ap, subst, ℕ, zero, suc, ◌+◌, ◌-◌, ◌^◌, ◌<◌, ◌≤◌, ◌⊎◌, inl, inr, List, [], ◌∷◌, ◌++◌, length, take, get_or, map, refl, arith, Bool, true, false, cond, Option, Some, None, IsSome, get_or-set_other, get_or-set_same, length-set}
use Rattle.std.specs.Prelude.{slice_get, slice_index, slice_set, fold, nat_eq, min, count_by}
use Rattle.std.specs.List.{list_any, position_from}
use Rattle.std.proofs.lemmas.Bool.{cases_order, eqb-true, eq-eqb, and_parts}
use Rattle.std.proofs.lemmas.List.{get_or-take, get_or_append_left, get_or_default, get_or_push, length-map, length-take-le, length_push, map_push, replicate_more}
use Rattle.std.proofs.lemmas.List.FromFn.{length-map-range_with_len, get_or-map-range_with_len, map-range_with_len_more}
use Rattle.std.proofs.lemmas.List.Elements.{All-push}
use Rattle.std.proofs.lemmas.List.Recursion.{is_count_by}
use Rattle.std.proofs.lemmas.List.Sums.{fold-append, sum_by-append}
use Rattle.std.proofs.lemmas.Option.{slice_get_within, slice_get_read, get_or_from_slice_get}
use Rattle.romfs_sets.proofs.Keyed.{below_or_at}
use Rattle.stack_model.specs.Listing.{Entry as Listed, IsAmong}
use Rattle.stack_model.specs.Numbers.{Place as ModelPlace, place, same_place, noted, nodes, number_of, node_of}
use Rattle.stack_model.proofs.Numbering.{number_used, number_listed, entries_numbered}
use Rattle.layer_paths.specs.declared.entries.Place.{Place}
use Rattle.layer_paths.specs.declared.entries.Entry.{Entry}
use Rattle.node_reader.specs.Readers.{placed}
use Rattle.node_table.specs.Walks.{Visit}
use Rattle.node_table.specs.Firsts.{IsFirstOf, AreFirsts, AreThemselves}
use Rattle.node_table.specs.Numbering.{place_key, key_of, one_more, visit_place, bare, seen, paths_of, IsFirstVisit, AreKeys, IsNumbered, AreNumbered, Numbering, numbers_apart, numbering_of}
use Rattle.node_table.specs.declared.numbering.Form.{Form}
use Rattle.node_table.specs.declared.numbering.Form.TheVariants.{Apart}
use Rattle.node_table.proofs.Lists.{element_below, get_push, get_map, index_map, take_one_more}

-- a place equals itself
pub same_itself : (p : ModelPlace) → same_place p p ≡ true
same_itself p = rw (eq-eqb p.0 p.0 refl, eq-eqb p.1 p.1 refl) refl

-- places that are equal are one place
pub same_is : (p q : ModelPlace) → same_place p q ≡ true → p ≡ q
same_is p q e =
    let b = and_parts (nat_eq p.0 q.0) (nat_eq p.1 q.1) e in
    let f = eqb-true p.0 q.0 b.0 in
    let g = eqb-true p.1 q.1 b.1 in
    ap (λ x. (x, p.1)) f ∙ ap (λ y. (q.0, y)) g

-- two places are one place, or differ
pub same_or_other : (p q : ModelPlace) → ((p ≡ q) × (same_place p q ≡ true)) ⊎ (same_place p q ≡ false)
same_or_other p q = go (same_place p q) refl
  where
    go : (b : Bool) → same_place p q ≡ b → ((p ≡ q) × (same_place p q ≡ true)) ⊎ (same_place p q ≡ false)
    go true e = inl (same_is p q e, e)
    go false e = inr e

-- positions among places
step : (n : ℕ) (t : ModelPlace → Bool) (q : ModelPlace) (qs : List ModelPlace) (b : Bool) → t q ≡ b → position_from t n (q ∷ qs)
    ≡ cond b (Some n) (position_from t (n + 1) qs)
step n t q qs true e = rw e refl
step n t q qs false e = rw e refl

some_any : (n m : ℕ) (t : ModelPlace → Bool) (qs : List ModelPlace) → position_from t n qs ≡ Some m → list_any t qs ≡ true
some_any n m t [] e = absurd (cc)
some_any n m t (q ∷ qs) e = go (t q) refl (some_any (n + 1) m t qs)
  where
    go : (b : Bool) → t q ≡ b → (position_from t (n + 1) qs ≡ Some m → list_any t qs ≡ true) → list_any t (q ∷ qs) ≡ true
    go true f later = rw f refl
    go false f later = rw f (later (sym (step n t q qs false f) ∙ e))

none_any : (n : ℕ) (t : ModelPlace → Bool) (qs : List ModelPlace) → position_from t n qs ≡ None → list_any t qs ≡ false
none_any n t [] e = refl
none_any n t (q ∷ qs) e = go (t q) refl (none_any (n + 1) t qs)
  where
    go : (b : Bool) → t q ≡ b → (position_from t (n + 1) qs ≡ None → list_any t qs ≡ false) → list_any t (q ∷ qs) ≡ false
    go true f later = absurd (let z : Some n ≡ None = sym (step n t q qs true f) ∙ e in cc)
    go false f later = rw f (later (sym (step n t q qs false f) ∙ e))

last_here : (n : ℕ) (t : ModelPlace → Bool) (qs : List ModelPlace) (p : ModelPlace) → t p ≡ true → position_from t n qs ≡ None
    → position_from t n (qs ++ p ∷ []) ≡ Some (n + length qs)
last_here n t [] p f e = step n t p [] true f ∙ ap Some (omega arith)
last_here n t (q ∷ qs) p f e = go (t q) refl (last_here (n + 1) t qs p f)
  where
    go : (b : Bool) → t q ≡ b → (position_from t (n + 1) qs ≡ None → position_from t (n + 1) (qs ++ p ∷ []) ≡ Some (n + 1 + length qs))
        → position_from t n (q ∷ qs ++ p ∷ []) ≡ Some (n + length (q ∷ qs))
    go true g later = absurd (let z : Some n ≡ None = sym (step n t q qs true g) ∙ e in cc)
    go false g later = step n t q (qs ++ p ∷ []) false g ∙ later (sym (step n t q qs false g) ∙ e) ∙ ap Some (omega arith)

last_other : (n : ℕ) (t : ModelPlace → Bool) (qs : List ModelPlace) (p : ModelPlace) → t p ≡ false → position_from t n (qs ++ p ∷ [])
    ≡ position_from t n qs
last_other n t [] p f = step n t p [] false f
last_other n t (q ∷ qs) p f = ap (λ o. cond (t q) (Some n) o) (last_other (n + 1) t qs p f)

nodes_last : (es : List Listed) (e : Listed) → nodes (es ++ e ∷ []) ≡ noted (nodes es) (place e)
unfolding nodes
nodes_last es e = ap (fold noted []) (map_push place es e) ∙ fold-append noted [] (map place es) (place e ∷ [])

noted_known : (ps : List ModelPlace) (p : ModelPlace) → list_any (same_place p) ps ≡ true → noted ps p ≡ ps
noted_known ps p e = rw e refl

noted_new : (ps : List ModelPlace) (p : ModelPlace) → list_any (same_place p) ps ≡ false → noted ps p ≡ ps ++ p ∷ []
noted_new ps p e = rw e refl

-- an entry whose place is known adds no node
pub nodes_known : (es : List Listed) (e : Listed) (n : ℕ) → number_of es (place e) ≡ Some n → nodes (es ++ e ∷ []) ≡ nodes es
unfolding number_of
nodes_known es e n k = nodes_last es e ∙ noted_known (nodes es) (place e) (some_any 1 n (same_place (place e)) (nodes es) k)

-- and one whose place is new adds that
pub nodes_new : (es : List Listed) (e : Listed) → number_of es (place e) ≡ None → nodes (es ++ e ∷ []) ≡ nodes es ++ place e ∷ []
unfolding number_of
nodes_new es e k = nodes_last es e ∙ noted_new (nodes es) (place e) (none_any 1 (same_place (place e)) (nodes es) k)

-- entries with the same nodes give a place the same number
pub number_by : (es fs : List Listed) (q : ModelPlace) → nodes es ≡ nodes fs → number_of es q ≡ number_of fs q
unfolding number_of
number_by es fs q e = ap (position_from (same_place q) 1) e

-- a new place gets the number after all others
pub number_new : (es : List Listed) (e : Listed) → number_of es (place e) ≡ None → number_of (es ++ e ∷ []) (place e)
    ≡ Some (length (nodes es) + 1)
unfolding number_of
number_new es e k =
    ap (position_from (same_place (place e)) 1) (nodes_new es e k)
    ∙ last_here 1 (same_place (place e)) (nodes es) (place e) (same_itself (place e)) k
    ∙ ap Some (omega arith)

-- a new place leaves the numbers of other places as they were
pub number_other : (es : List Listed) (e : Listed) (q : ModelPlace) → number_of es (place e) ≡ None → same_place q (place e) ≡ false
    → number_of (es ++ e ∷ []) q ≡ number_of es q
unfolding number_of
number_other es e q k f = ap (position_from (same_place q) 1) (nodes_new es e k) ∙ last_other 1 (same_place q) (nodes es) (place e) f

-- how many elements pass a test, counted from the front
abbrev pub count : {X : Type 0} → (X → Bool) → List X → ℕ
count t [] = 0
count t (x ∷ xs) = cond (t x) (1 + count t xs) (count t xs)

-- counted from the front, as many elements pass as by the count of the definitions
pub counted : {X : Type 0} (t : X → Bool) (xs : List X) → count t xs ≡ count_by t xs
counted t xs = is_count_by (count t) t refl (λ x xs. refl) xs

-- of two lists as many pass as of both
pub count_append : {X : Type 0} (t : X → Bool) (xs ys : List X) → count t (xs ++ ys) ≡ count t xs + count t ys
count_append t xs ys =
    counted t (xs ++ ys) ∙ sum_by-append (λ x. cond (t x) 1 0) xs ys
    ∙ sym (ap (λ n. n + count t ys) (counted t xs) ∙ ap (λ n. count_by t xs + n) (counted t ys))

-- how many entries have a place
paths_last : (es : List Listed) (e : Listed) (p : ModelPlace) → paths_of (es ++ e ∷ []) p ≡ paths_of es p
    + cond (same_place p (place e)) 1 0
paths_last es e p =
    let t = (λ (f : Listed). same_place p (place f)) in
    sym (counted t (es ++ e ∷ [])) ∙ count_append t es (e ∷ []) ∙ ap (λ n. n + cond (same_place p (place e)) 1 0) (counted t es)

-- a place that has no number is no entry's
pub not_among : (es : List Listed) (p : ModelPlace) → number_of es p ≡ None → (e : Listed) → IsAmong e es → same_place p (place e) ≡ false
not_among es p k e a = elim (same_or_other p (place e)) [
  | inr f ↦ f
  | inl x ↦ absurd (let s : IsSome (number_of es (place e)) = (entries_numbered es e e a a).0 in let t : IsSome (number_of es p) =
      subst (λ q. IsSome (number_of es q)) (sym x.0) s in let u = rw k at t in cc)
]

none_paths : (es : List Listed) (p : ModelPlace) → ((e : Listed) → IsAmong e es → same_place p (place e) ≡ false) → paths_of es p ≡ 0
none_paths es p f = sym (counted (λ (e : Listed). same_place p (place e)) es) ∙ go es f
  where
    go : (es : List Listed) → ((e : Listed) → IsAmong e es → same_place p (place e) ≡ false)
        → count (λ (e : Listed). same_place p (place e)) es ≡ 0
    go [] f = refl
    go (e ∷ es) f = rw (f e (inl refl)) (go es (λ g a. f g (inr a)))

-- one more visit
seen_last : (visits : List (Visit Entry)) (i : ℕ) (visit : Visit Entry) → i < length visits → visit ≡ get_or visits i visit
    → seen visits (i + 1) ≡ seen visits i ++ bare visit ∷ []
seen_last visits i visit l e = ap (map bare) (take_one_more visits i visit l e) ∙ map_push bare (take i visits) visit

-- one more key
pub keys_more : (visits : List (Visit Entry)) (i : ℕ) (visit : Visit Entry) (keys keys' : List ℕ) (k : ℕ) → i < length visits
    → visit ≡ get_or visits i visit → AreKeys (take i visits) keys → k ≡ key_of visit → visit.now.value.place.header < 2 ^ 32
    → keys' ≡ keys ++ k ∷ [] → AreKeys (take (i + 1) visits) keys'
keys_more visits i visit keys keys' k l e a k_is small p = subst (λ x. AreKeys x keys') (sym (take_one_more visits i visit l e)) (record {
  are = p ∙ ap (λ x. x ++ k ∷ []) a.are ∙ ap (λ n. map key_of (take i visits) ++ n ∷ []) k_is ∙ sym (map_push key_of (take i visits) visit);
  small = All-push (λ (s : Visit Entry). s.now.value.place.header < 2 ^ 32) (take i visits) visit a.small small;
})

-- two places with one key are one
key_tells : (q r : Place) → q.header < 2 ^ 32 → r.header < 2 ^ 32 → place_key q ≡ place_key r → placed q ≡ placed r
key_tells q r l m e =
    let a : q.layer ≡ r.layer = omega arith in
    let b : q.header ≡ r.header = omega arith in
    cc

-- before the first visit no place is numbered
pub numbers_begun : (visits first : List (Visit Entry)) (starts paths numbers : List ℕ) → first ≡ [] → starts ≡ [] → paths ≡ []
    → numbers ≡ [] → IsNumbered visits 0 first starts paths numbers
unfolding number_of nodes
numbers_begun visits first starts paths numbers e d f n = record {
  places = ap (map visit_place) e ∙ empty;
  each = λ k x g. absurd (let h = rw e at g in cc);
  starts_level = ap length d ∙ sym (ap length e);
  level = ap length f ∙ sym (ap length e);
  counted = λ k x g. absurd (let h = rw e at g in cc);
  numbers_level = ap length n;
  known = λ k x l. absurd (omega arith);
}
  where
    empty : [] ≡ nodes []
    empty = refl

-- the first visits of places, their positions, how many paths they have, and the numbers of visits
pub record Numbers : Type 0 where
  pub first : List (Visit Entry)
  pub starts : List ℕ
  pub paths : List ℕ
  pub numbers : List ℕ

module _ (visits : List (Visit Entry)) (i : ℕ) (visit : Visit Entry) (held : Numbers) (lt : i < length visits)
    (here : visit ≡ get_or visits i visit) (inv : IsNumbered visits i held.first held.starts held.paths held.numbers) where
  more : seen visits (i + 1) ≡ seen visits i ++ bare visit ∷ []
  more = seen_last visits i visit lt here

  -- the number of the place of a first visit
  number_of_first : (k : ℕ) (x : Visit Entry) → slice_get held.first k ≡ Some x → number_of (seen visits i) (visit_place x) ≡ Some (suc k)
  number_of_first k x e = (number_used (seen visits i) (suc k) (visit_place x)).1
      (subst (λ ps. slice_get ps k ≡ Some (visit_place x)) inv.places (get_map visit_place held.first k x e))

  -- a known number counts from 1, and there is a count of paths for it
  number_positive : (n : ℕ) → number_of (seen visits i) (visit_place visit) ≡ Some n → (1 ≤ n) × (n - 1 < length held.paths)
  number_positive zero f = absurd (let z = (number_used (seen visits i) 0 (visit_place visit)).0 f in cc)
  number_positive (suc k) f =
      let z = (number_used (seen visits i) (suc k) (visit_place visit)).0 f in
      let l = slice_get_within (nodes (seen visits i)) k (visit_place visit) z in
      let m = ap length inv.places in
      let n = length-map held.first visit_place in
      let v = inv.level in
      (omega arith, omega arith)

  -- one entry more with the place p, or with another
  paths_more : (q : ModelPlace) → paths_of (seen visits (i + 1)) q ≡ paths_of (seen visits i) q + cond (same_place q (visit_place visit)) 1
      0
  paths_more q = ap (λ es. paths_of es q) more ∙ paths_last (seen visits i) (bare visit) q

  one_more_held : (a b c d : ℕ) → d ≡ one_more c → c ≡ min a (2 ^ 32 - 1) → b ≡ a + 1 → d ≡ min b (2 ^ 32 - 1)
  one_more_held a b c d e f g = omega arith

  -- the numbers of the visits before this one, and its own
  knows : (n : ℕ) → ((k : ℕ) (x : Visit Entry) → k < i → slice_get visits k ≡ Some x → number_of (seen visits (i + 1)) (visit_place x)
      ≡ Some (slice_index held.numbers k)) → number_of (seen visits (i + 1)) (visit_place visit) ≡ Some n → (k : ℕ) (x : Visit Entry)
      → slice_get visits k ≡ Some x → (k < i) ⊎ (k ≡ i) → number_of (seen visits (i + 1)) (visit_place x)
      ≡ Some (slice_index (held.numbers ++ n ∷ []) k)
  knows n before own k x e (inl l) = before k x l e
      ∙ ap Some (sym (get_or_append_left held.numbers (n ∷ []) 0 k (let v = inv.numbers_level in omega arith)))
  knows n before own k x e (inr l) =
      let z : Some visit ≡ Some x = sym (slice_get_read visits _ i visit refl lt here) ∙ ap (slice_get visits) (sym l) ∙ e in
      let same : visit ≡ x = cc in
      ap (λ (y : Visit Entry). number_of (seen visits (i + 1)) (visit_place y)) (sym same) ∙ own
      ∙ ap Some (sym (ap (slice_index (held.numbers ++ n ∷ [])) (l ∙ sym inv.numbers_level)
      ∙ get_or_push held.numbers n 0 (length held.numbers) refl))

  -- a visit whose place is known takes its number, and the place has one path more
  pub was_known : (n : ℕ) (paths' numbers' : List ℕ) → number_of (seen visits i) (visit_place visit) ≡ Some n
      → paths' ≡ slice_set held.paths (n - 1) (one_more (slice_index held.paths (n - 1))) → numbers' ≡ held.numbers ++ n ∷ []
      → IsNumbered visits (i + 1) held.first held.starts paths' numbers'
  was_known n paths' numbers' numbered paths_is numbers_is = record {
    places = inv.places ∙ sym same;
    each = inv.each;
    starts_level = inv.starts_level;
    level = ap length paths_is ∙ simp length-set inv.level;
    counted = counts;
    numbers_level = ap length numbers_is ∙ length_push held.numbers n ∙ ap (λ k. k + 1) inv.numbers_level;
    known = λ k x l e. subst (λ xs. number_of (seen visits (i + 1)) (visit_place x) ≡ Some (slice_index xs k)) (sym numbers_is)
        (knows n (λ k x l e. number_by (seen visits (i + 1)) (seen visits i) (visit_place x) same ∙ inv.known k x l e)
        (number_by (seen visits (i + 1)) (seen visits i) (visit_place visit) same ∙ numbered) k x e (below_or_at k i l));
  }
    where
      same : nodes (seen visits (i + 1)) ≡ nodes (seen visits i)
      same = ap nodes more ∙ nodes_known (seen visits i) (bare visit) n numbered

      counts : (k : ℕ) (x : Visit Entry) → slice_get held.first k ≡ Some x → slice_index paths' k
          ≡ min (paths_of (seen visits (i + 1)) (visit_place x)) (2 ^ 32 - 1)
      counts k x f = elim (same_or_other (visit_place x) (visit_place visit)) [
        | inl (q, t) ↦
            let z : Some (suc k) ≡ Some n = sym (number_of_first k x f) ∙ ap (number_of (seen visits i)) q ∙ numbered in
            let y : suc k ≡ n = cc in
            let j : n - 1 ≡ k = omega arith in
            let b = number_positive n numbered in
            let b1 = b.1 in
            let lt : k < length held.paths = omega arith in
            let set_is : paths' ≡ slice_set held.paths k (one_more (slice_index held.paths k)) =
            subst (λ m. paths' ≡ slice_set held.paths m (one_more (slice_index held.paths m))) j paths_is in
            let at : slice_index paths' k ≡ one_more (slice_index held.paths k) = ap (λ xs. slice_index xs k) set_is
            ∙ rw get_or-set_same refl in
            one_more_held (paths_of (seen visits i) (visit_place x)) (paths_of (seen visits (i + 1)) (visit_place x))
            (slice_index held.paths k) (slice_index paths' k) at (inv.counted k x f) (paths_more (visit_place x)
            ∙ ap (λ c. paths_of (seen visits i) (visit_place x) + cond c 1 0) t)
        | inr t ↦
            let ne : k ≢ n - 1 = apart k x f t in
            let at : slice_index paths' k ≡ slice_index held.paths k = ap (λ xs. slice_index xs k) paths_is ∙ rw get_or-set_other refl in
            at ∙ inv.counted k x f ∙ ap (λ c. min c (2 ^ 32 - 1))
            (sym (paths_more (visit_place x) ∙ ap (λ c. paths_of (seen visits i) (visit_place x) + cond c 1 0) t ∙ omega arith))
      ]
        where
          apart : (k : ℕ) (x : Visit Entry) → slice_get held.first k ≡ Some x → same_place (visit_place x) (visit_place visit) ≡ false
              → k ≢ n - 1
          apart k x f t q =
              let b = (number_positive n numbered).0 in
              let y : suc k ≡ n = omega arith in
              let u = (number_used (seen visits i) n (visit_place visit)).0 numbered in
              let v = (number_used (seen visits i) (suc k) (visit_place x)).0 (number_of_first k x f) in
              let w : Some (visit_place x) ≡ Some (visit_place visit) = sym v ∙ ap (node_of (seen visits i)) y ∙ u in
              let z : visit_place x ≡ visit_place visit = cc in
              let r : same_place (visit_place x) (visit_place visit) ≡ true = ap (λ q. same_place q (visit_place visit)) z
              ∙ same_itself (visit_place visit) in
              cc

  -- a visit whose place is new takes the next number, and the place has one path
  pub is_new : (n : ℕ) (later : Numbers) → number_of (seen visits i) (visit_place visit) ≡ None
      → n ≡ length held.first + 1 → later.first ≡ held.first ++ visit ∷ [] → later.starts ≡ held.starts ++ i ∷ []
      → later.paths ≡ held.paths ++ 1 ∷ [] → later.numbers ≡ held.numbers ++ n ∷ []
      → IsNumbered visits (i + 1) later.first later.starts later.paths later.numbers
  is_new n later unnumbered next first_is starts_is paths_is numbers_is = record {
    places = ap (map visit_place) first_is ∙ map_push visit_place held.first visit
        ∙ ap (λ ps. ps ++ visit_place visit ∷ []) inv.places ∙ sym grown;
    each = λ k x f. subst (λ xs. IsFirstVisit visits x (slice_index xs k)) (sym starts_is)
        (starting k x (get_push held.first visit k x (subst (λ xs. slice_get xs k ≡ Some x) first_is f)));
    starts_level = ap length starts_is ∙ length_push held.starts i ∙ ap (λ k. k + 1) inv.starts_level
        ∙ sym (ap length first_is ∙ length_push held.first visit);
    level = ap length paths_is ∙ length_push held.paths 1 ∙ ap (λ k. k + 1) inv.level
        ∙ sym (ap length first_is ∙ length_push held.first visit);
    counted = λ k x f. counts k x (get_push held.first visit k x (subst (λ xs. slice_get xs k ≡ Some x) first_is f));
    numbers_level = ap length numbers_is ∙ length_push held.numbers n ∙ ap (λ k. k + 1) inv.numbers_level;
    known = λ k x l e. subst (λ xs. number_of (seen visits (i + 1)) (visit_place x) ≡ Some (slice_index xs k)) (sym numbers_is)
        (knows n before own k x e (below_or_at k i l));
  }
    where
      grown : nodes (seen visits (i + 1)) ≡ nodes (seen visits i) ++ visit_place visit ∷ []
      grown = ap nodes more ∙ nodes_new (seen visits i) (bare visit) unnumbered

      n_is : n ≡ length (nodes (seen visits i)) + 1
      n_is = next ∙ ap (λ k. k + 1) (sym (length-map held.first visit_place) ∙ ap length inv.places)

      own : number_of (seen visits (i + 1)) (visit_place visit) ≡ Some n
      own = ap (λ es. number_of es (visit_place visit)) more ∙ number_new (seen visits i) (bare visit) unnumbered ∙ ap Some (sym n_is)

      before : (k : ℕ) (x : Visit Entry) → k < i → slice_get visits k ≡ Some x → number_of (seen visits (i + 1)) (visit_place x)
          ≡ Some (slice_index held.numbers k)
      before k x l e = elim (same_or_other (visit_place x) (visit_place visit)) [
        | inl q ↦ absurd (let z : Some (slice_index held.numbers k) ≡ None = sym (inv.known k x l e)
            ∙ ap (number_of (seen visits i)) q.0 ∙ unnumbered in
            cc)
        | inr t ↦ ap (λ es. number_of es (visit_place x)) more ∙ number_other (seen visits i) (bare visit) (visit_place x) unnumbered t
            ∙ inv.known k x l e
      ]

      starting : (k : ℕ) (x : Visit Entry) → (slice_get held.first k ≡ Some x) ⊎ ((k ≡ length held.first) × (visit ≡ x))
          → IsFirstVisit visits x (slice_index (held.starts ++ i ∷ []) k)
      starting k x (inl f) =
          let b = slice_get_within held.first k x f in
          let v = inv.starts_level in
          subst (IsFirstVisit visits x) (sym (get_or_append_left held.starts (i ∷ []) 0 k (omega arith))) (inv.each k x f)
      starting k x (inr (a, b)) = subst (IsFirstVisit visits x) (sym (ap (slice_index (held.starts ++ i ∷ [])) (a ∙ sym inv.starts_level)
          ∙ get_or_push held.starts i 0 (length held.starts) refl))
          (subst (λ (y : Visit Entry). IsFirstVisit visits y i) b (record {
            is = slice_get_read visits _ i visit refl lt here;
            new = unnumbered;
          }))

      counts : (k : ℕ) (x : Visit Entry) → (slice_get held.first k ≡ Some x) ⊎ ((k ≡ length held.first) × (visit ≡ x))
          → slice_index later.paths k ≡ min (paths_of (seen visits (i + 1)) (visit_place x)) (2 ^ 32 - 1)
      counts k x (inl f) =
          let b = slice_get_within held.first k x f in
          let v = inv.level in
          let t : same_place (visit_place x) (visit_place visit) ≡ false = other k x f in
          ap (λ xs. slice_index xs k) paths_is ∙ get_or_append_left held.paths (1 ∷ []) 0 k (omega arith) ∙ inv.counted k x f
          ∙ ap (λ c. min c (2 ^ 32 - 1)) (sym (paths_more (visit_place x) ∙ ap (λ c. paths_of (seen visits i) (visit_place x) + cond c 1 0)
          t
          ∙ omega arith))
        where
          other : (k : ℕ) (x : Visit Entry) → slice_get held.first k ≡ Some x → same_place (visit_place x) (visit_place visit) ≡ false
          other k x f = elim (same_or_other (visit_place x) (visit_place visit)) [
            | inr t ↦ t
            | inl q ↦ absurd (let z : Some (suc k) ≡ None = sym (number_of_first k x f)
                ∙ ap (number_of (seen visits i)) q.0 ∙ unnumbered in cc)
          ]
      counts k x (inr (a, b)) =
          let zero_paths : paths_of (seen visits i) (visit_place visit) ≡ 0 = none_paths (seen visits i) (visit_place visit)
          (not_among (seen visits i) (visit_place visit) unnumbered) in
          let one : paths_of (seen visits (i + 1)) (visit_place visit) ≡ 1 = paths_more (visit_place visit)
          ∙ ap (λ c. paths_of (seen visits i) (visit_place visit) + cond c 1 0) (same_itself (visit_place visit))
          ∙ ap (λ c. c + 1) zero_paths in
          let j : k ≡ length held.paths = a ∙ sym inv.level in
          ap (λ xs. slice_index xs k) paths_is ∙ ap (slice_index (held.paths ++ 1 ∷ [])) j
          ∙ get_or_push held.paths 1 0 (length held.paths) refl
          ∙ sym (ap (λ (y : Visit Entry). min (paths_of (seen visits (i + 1)) (visit_place y)) (2 ^ 32 - 1)) (sym b)
          ∙ ap (λ c. min c (2 ^ 32 - 1)) one)

-- what is among the first visits
among_seen : (visits : List (Visit Entry)) (i : ℕ) (e : Listed) → IsAmong e (map bare (take i visits)) → (j : ℕ) × (s : Visit Entry)
    × (j < i)
    × (slice_get visits j ≡ Some s) × (e ≡ bare s)
among_seen [] zero e a = absurd a
among_seen [] (suc i) e a = absurd a
among_seen (x ∷ visits) zero e a = absurd a
among_seen (x ∷ visits) (suc i) e (inl q) = (0, x, omega arith, refl, q)
among_seen (x ∷ visits) (suc i) e (inr a) = let m = among_seen visits i e a in (suc m.0, m.1, (let l = m.2 in omega arith), m.3, m.4)

-- the place of a visit has this number, which counts from 1, and there is a count of paths for it
pub record HasNumber (visits : List (Visit Entry)) (visit : Visit Entry) (paths : List ℕ) (i n : ℕ) : Type 0 where
  pub is : number_of (seen visits i) (visit_place visit) ≡ Some n
  pub positive : 1 ≤ n
  pub counted : n - 1 < length paths

-- the visit at i has a new place if the first place of its key is i; if that is another one,
-- the number that is read there, among those so far, is the visit's
pub record TakesNumber (visits : List (Visit Entry)) (paths numbers : List ℕ) (i before : ℕ) : Type 0 where
  pub visit : Visit Entry
  pub here : visit ≡ get_or visits i visit
  pub new : before ≡ i → number_of (seen visits i) (visit_place visit) ≡ None
  pub within : before ≢ i → before < length numbers
  pub known : before ≢ i → (n : ℕ) → n ≡ get_or numbers before n → HasNumber visits visit paths i n

module _ (visits : List (Visit Entry)) (keys firsts : List ℕ) (are : AreKeys visits keys) (f : AreFirsts keys firsts) where
  keys_level : length keys ≡ length visits
  keys_level = ap length are.are ∙ length-map visits key_of

  key_is : (k : ℕ) (s : Visit Entry) → slice_get visits k ≡ Some s → slice_index keys k ≡ key_of s
  key_is k s e = ap (λ xs. slice_index xs k) are.are ∙ index_map key_of visits k s e

  small : (k : ℕ) (s : Visit Entry) → slice_get visits k ≡ Some s → s.now.value.place.header < 2 ^ 32
  small k s e = subst (λ (x : Visit Entry). x.now.value.place.header < 2 ^ 32) (get_or_from_slice_get visits k s s e)
      (are.small k s (slice_get_within visits k s e))

  -- visits with one key have one place
  one_place : (j k : ℕ) (s t : Visit Entry) → slice_get visits j ≡ Some s → slice_get visits k ≡ Some t
      → slice_index keys j ≡ slice_index keys k → visit_place s ≡ visit_place t
  one_place j k s t d e q = key_tells s.now.value.place t.now.value.place (small j s d) (small k t e) (sym (key_is j s d) ∙ q
      ∙ key_is k t e)

  module _ (i : ℕ) (visit : Visit Entry) (lt : i < length visits) (here : visit ≡ get_or visits i visit) where
    told : IsFirstOf keys (slice_index keys i) (slice_index firsts i)
    told = f.each i (let level = keys_level in omega arith)

    first_within : slice_index firsts i < length visits
    first_within = let w = told.within in let level = keys_level in omega arith

    not_after : i < slice_index firsts i → ⊥
    not_after l = told.before i l refl

    -- a place that some visit before has, has that visit's number
    has_number : (held : Numbers) → IsNumbered visits i held.first held.starts held.paths held.numbers
        → slice_index firsts i ≢ i → (slice_index firsts i < i)
        × (number_of (seen visits i) (visit_place visit) ≡ Some (slice_index held.numbers (slice_index firsts i)))
    has_number held inv ne =
        let x = element_below visits (slice_index firsts i) first_within in
        let same = one_place (slice_index firsts i) i x.0 visit x.1 (slice_get_read visits _ i visit refl lt here) told.at in
        (before, sym (ap (number_of (seen visits i)) same) ∙ inv.known (slice_index firsts i) x.0 before x.1)
      where
        before : slice_index firsts i < i
        before = elim (cases_order (slice_index firsts i) i) [
          | inl q ↦ absurd (ne q)
          | inr (inl q) ↦ q
          | inr (inr q) ↦ absurd (not_after q)
        ]

    -- a place that no visit before has, has no number
    has_none : slice_index firsts i ≡ i → number_of (seen visits i) (visit_place visit) ≡ None
    has_none same = test (number_of (seen visits i) (visit_place visit)) refl
      where
        test : (o : Option ℕ) → number_of (seen visits i) (visit_place visit) ≡ o → o ≡ None
        test None e = refl
        test (Some n) e = absurd (
            let a = number_listed (seen visits i) n (visit_place visit) ((number_used (seen visits i) n (visit_place visit)).0 e) in
            let b = among_seen visits i a.0 a.1 in
            let p : visit_place b.1 ≡ visit_place visit = ap place (sym b.4) ∙ a.2 in
            let layers = ap (λ (q : ModelPlace). q.0) p in
            let headers = ap (λ (q : ModelPlace). q.1) p in
            let k : key_of b.1 ≡ key_of visit = omega arith in
            told.before b.0 (let l = b.2 in omega arith) (key_is b.0 b.1 b.3 ∙ k
            ∙ sym (key_is i visit (slice_get_read visits _ i visit refl lt here))))

  -- a visit, as the code reads it, takes its number from the first place of its key
  pub taken_from_first : {first : List (Visit Entry)} {starts paths numbers : List ℕ} (i before : ℕ) → i < length visits
      → before ≡ slice_index firsts i → length numbers ≡ length visits → IsNumbered visits i first starts paths (take i numbers)
      → TakesNumber visits paths numbers i before
  taken_from_first {first} {starts} {paths} {numbers} i before lt before_is room inv = record {
    visit = visit.0;
    here = visit.1;
    new = λ same. has_none i visit.0 lt visit.1 (sym before_is ∙ same);
    within = below;
    known = λ other n e. has n ((numbered other).1 ∙ ap Some (ap (slice_index (take i numbers)) (sym before_is)
        ∙ get_or-take i numbers before 0 (earlier other) ∙ sym (get_or_default numbers before n 0 (below other)) ∙ sym e));
  }
    where
      held : Numbers
      held = record { first = first; starts = starts; paths = paths; numbers = take i numbers }

      visit : (s : Visit Entry) × (s ≡ get_or visits i s)
      visit = let x = element_below visits i lt in (x.0, sym (get_or_from_slice_get visits i x.0 x.0 x.1))

      numbered : before ≢ i → (slice_index firsts i < i)
          × (number_of (seen visits i) (visit_place visit.0) ≡ Some (slice_index (take i numbers) (slice_index firsts i)))
      numbered other = has_number i visit.0 lt visit.1 held inv (λ e. other (before_is ∙ e))

      earlier : before ≢ i → before < i
      earlier other = let l = (numbered other).0 in omega (arith, before_is)

      below : before ≢ i → before < length numbers
      below other = let l = earlier other in omega arith

      has : (n : ℕ) → number_of (seen visits i) (visit_place visit.0) ≡ Some n → HasNumber visits visit.0 paths i n
      has n is = let b = number_positive visits i visit.0 held lt visit.1 inv n is in
          record { is = is; positive = b.0; counted = b.1 }

-- what is kept about branches apart depends only on how many they are
pub apart_told : {A : Type 0} {form : Form A} {told : Numbering} (n : ℕ) → form ≡ Apart n → numbering_of form ≡ told
    → numbers_apart n ≡ told
apart_told n is view = sym (ap numbering_of is) ∙ view

module _ {told : Numbering} (n : ℕ) (is : numbers_apart n ≡ told) where
  -- they have as many places
  pub length_apart : n ≡ length told.starts
  length_apart = sym (length-map-range_with_len (λ k. k) 0 n) ∙ ap (λ (x : Numbering). length x.starts) is

  -- each is at its number minus one
  pub start_apart : (at : ℕ) → at < length told.starts → at ≡ slice_index told.starts at
  start_apart at within = sym (get_or-map-range_with_len (λ k. k) 0 n at at 0 (omega (arith, within, length_apart)) (omega arith))
      ∙ ap (λ (x : Numbering). slice_index x.starts at) is

  -- and has that number
  pub number_apart : (at : ℕ) → at < length told.numbers → at + 1 ≡ slice_index told.numbers at
  number_apart at within =
      let level : n ≡ length told.numbers = sym (length-map-range_with_len (λ k. k + 1) 0 n)
      ∙ ap (λ (x : Numbering). length x.numbers) is in
      sym (get_or-map-range_with_len (λ k. k + 1) 0 n at at 0 (omega (arith, within, level)) (omega arith))
      ∙ ap (λ (x : Numbering). slice_index x.numbers at) is

-- if each place is the first of its key, no two branches have one place: as many branches as have been passed are numbered by their
-- positions
module _ (visits : List (Visit Entry)) (keys firsts : List ℕ) (are : AreKeys visits keys) (f : AreFirsts keys firsts)
    (themselves : AreThemselves (length firsts) firsts) where
  abbrev apart : ℕ → Numbers
  apart i = record {
    first = take i visits;
    starts = (numbers_apart i).starts;
    paths = (numbers_apart i).paths;
    numbers = (numbers_apart i).numbers;
  }

  own_first : (i : ℕ) → i < length visits → slice_index firsts i ≡ i
  own_first i lt = themselves.each i (omega (arith, lt, keys_level visits keys firsts are f, f.level))

  apart_up_to : (i : ℕ) → i ≤ length visits
      → IsNumbered visits i (take i visits) (numbers_apart i).starts (numbers_apart i).paths (numbers_apart i).numbers
  apart_up_to zero le = numbers_begun visits (take 0 visits) [] [] [] (none visits) refl refl refl
    where
      none : (xs : List (Visit Entry)) → take 0 xs ≡ []
      none [] = refl
      none (x ∷ xs) = refl
  apart_up_to (suc i) le = subst (λ n. IsNumbered visits n (take n visits) (numbers_apart n).starts (numbers_apart n).paths
      (numbers_apart n).numbers) next
      (is_new visits i visit.0 (apart i) lt here (apart_up_to i (omega arith)) (i + 1) (apart (i + 1))
      (has_none visits keys firsts are f i visit.0 lt here (own_first i lt)) level (take_one_more visits i visit.0 lt here)
      (map-range_with_len_more (λ k. k) 0 i i (omega arith)) (sym (replicate_more i 1))
      (map-range_with_len_more (λ k. k + 1) 0 i i (omega arith)))
    where
      lt : i < length visits
      lt = omega arith

      next : i + 1 ≡ suc i
      next = omega arith

      visit : (s : Visit Entry) × (slice_get visits i ≡ Some s)
      visit = element_below visits i lt

      here : visit.0 ≡ get_or visits i visit.0
      here = sym (get_or_from_slice_get visits i visit.0 visit.0 visit.1)

      level : i + 1 ≡ length (take i visits) + 1
      level = ap (λ k. k + 1) (sym (length-take-le i visits (omega arith)))

  -- and so all are
  pub numbered_apart : AreNumbered visits (numbers_apart (length visits)).starts (numbers_apart (length visits)).paths
      (numbers_apart (length visits)).numbers
  numbered_apart = (take (length visits) visits, apart_up_to (length visits) (omega arith))
