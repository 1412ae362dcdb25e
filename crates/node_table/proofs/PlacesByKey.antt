-- Keys with their places in order, and the first place of each. Collecting is the loop that puts
-- keys with their places, and sorted_by_key says what sorting makes of these. Filling is the loop
-- over them in order: each goes on with a key (key_goes_on) or begins another (key_begins), and at
-- the end each place has the first one of its key (all_told).
use Rattle.std.proofs.Common.{◌≡◌, ◌≢◌, ◌∙◌, sym, ap, subst, ℕ, zero, suc, ◌+◌, ◌-◌, ◌<◌, ◌≤◌, ◌⊎◌, inl, inr, List, [], ◌∷◌, ◌++◌, length, get_or, refl, arith, false, get_or-set_other, get_or-set_same, length-set, length-append}
use Rattle.std.specs.Prelude.{slice_index, slice_set, All}
use Rattle.std.specs.List.{Contains}
use Rattle.std.specs.List.Sorted.{IsSorted, IsPermutation}
use Rattle.std.specs.Ordering.{is_lt, nat_cmp, ordering_then}
use Rattle.std.proofs.lemmas.Bool.{cases_lt, cases_order}
use Rattle.std.proofs.lemmas.Bool.Decides.{nat_tests}
use Rattle.std.proofs.lemmas.List.{get_or_append_left, get_or_push, get_or_default}
use Rattle.std.proofs.lemmas.List.Sorted.{All-permutation, Contains-permutation}
use Rattle.romfs_sets.specs.Once.{IsOnce}
use Rattle.romfs_sets.proofs.Keyed.{below_or_at}
use Rattle.node_table.specs.Firsts.{ArePlacesByKey, AreThemselves, IsFirstOf, AreFirsts}

-- the first keys that may also be at other places are put with their places
pub record Collecting (keys : List ℕ) (by_key : List (ℕ × ℕ)) (i : ℕ) : Type 0 where
  pub own : All (λ keyed. (keyed.1 < i) × (slice_index keys keyed.1 ≡ keyed.0)) by_key
  pub every : (k : ℕ) → k < i → Contains by_key (slice_index keys k, k) ⊎ IsOnce keys k

-- before the first key none is put
pub none_collected : (keys : List ℕ) (by_key : List (ℕ × ℕ)) → by_key ≡ [] → Collecting keys by_key 0
none_collected keys by_key e = record {
  own = λ k d l. absurd (let m : length by_key ≡ 0 = ap length e in omega arith);
  every = λ k l. absurd (omega arith);
}

further : (keys : List ℕ) (by_key : List (ℕ × ℕ)) (i : ℕ) → All (λ keyed. (keyed.1 < i) × (slice_index keys keyed.1 ≡ keyed.0)) by_key
    → All (λ keyed. (keyed.1 < i + 1) × (slice_index keys keyed.1 ≡ keyed.0)) by_key
further keys by_key i own k d l = let o = own k d l in (let m = o.0 in omega arith, o.1)

-- a key that occurs once is passed over
pub key_passed_over : (keys : List ℕ) (by_key : List (ℕ × ℕ)) (i : ℕ) → Collecting keys by_key i → IsOnce keys i
    → Collecting keys by_key (i + 1)
key_passed_over keys by_key i s o = record {
  own = further keys by_key i s.own;
  every = λ k l. one k (below_or_at k i l);
}
  where
    one : (k : ℕ) → (k < i) ⊎ (k ≡ i) → Contains by_key (slice_index keys k, k) ⊎ IsOnce keys k
    one k (inl m) = s.every k m
    one k (inr m) = inr (subst (IsOnce keys) (sym m) o)

-- any key may be put with its place
pub key_collected : (keys : List ℕ) (by_key more : List (ℕ × ℕ)) (i key : ℕ) → key ≡ slice_index keys i
    → more ≡ by_key ++ (key, i) ∷ []
    → Collecting keys by_key i → Collecting keys more (i + 1)
key_collected keys by_key more i key e p s = record {
  own = λ k d l. at k d l (below_or_at k (length by_key) (let m : length more ≡ length by_key + 1 = ap length p
      ∙ length-append by_key ((key, i) ∷ []) in omega arith));
  every = λ k l. one k (below_or_at k i l);
}
  where
    at : (k : ℕ) (d : ℕ × ℕ) → k < length more → (k < length by_key) ⊎ (k ≡ length by_key) → ((get_or more k d).1 < i + 1)
        × (slice_index keys (get_or more k d).1 ≡ (get_or more k d).0)
    at k d l (inl m) =
        let g : get_or more k d ≡ get_or by_key k d = ap (λ x. get_or x k d) p ∙ get_or_append_left by_key ((key, i) ∷ []) d k m in
        subst (λ (x : ℕ × ℕ). (x.1 < i + 1) × (slice_index keys x.1 ≡ x.0)) (sym g) (further keys by_key i s.own k d m)
    at k d l (inr m) =
        let g : get_or more k d ≡ (key, i) = ap (λ x. get_or x k d) p ∙ ap (λ n. get_or (by_key ++ (key, i) ∷ []) n d) m
        ∙ get_or_push by_key (key, i) d (length by_key) refl in
        subst (λ (x : ℕ × ℕ). (x.1 < i + 1) × (slice_index keys x.1 ≡ x.0)) (sym g) (omega arith, sym e)

    here : Contains more (slice_index keys i, i)
    here = (
      length by_key,
      (let m : length more ≡ length by_key + 1 = ap length p ∙ length-append by_key ((key, i) ∷ []) in omega arith),
      ap (λ x. get_or x (length by_key) (slice_index keys i, i)) p
          ∙ get_or_push by_key (key, i) (slice_index keys i, i) (length by_key) refl ∙ ap (λ x. (x, i)) e,
    )

    there : (x : ℕ × ℕ) → Contains by_key x → Contains more x
    there x (j, m, q) = (
      j,
      (let n : length more ≡ length by_key + 1 = ap length p ∙ length-append by_key ((key, i) ∷ []) in omega arith),
      ap (λ y. get_or y j x) p ∙ get_or_append_left by_key ((key, i) ∷ []) x j m ∙ q,
    )

    one : (k : ℕ) → (k < i) ⊎ (k ≡ i) → Contains more (slice_index keys k, k) ⊎ IsOnce keys k
    one k (inl m) = elim (s.every k m) [ inl c ↦ inl (there _ c) | inr o ↦ inr o ]
    one k (inr m) = inl (subst (λ n. Contains more (slice_index keys n, n)) (sym m) here)

-- all keys that were put, once sorted, are in the order of keys and then of places
pub sorted_by_key : (keys : List ℕ) (by_key sorted : List (ℕ × ℕ)) → Collecting keys by_key (length keys) → IsPermutation by_key sorted
    → IsSorted (λ x y. ordering_then (nat_cmp x.0 y.0) (nat_cmp x.1 y.1)) sorted → ArePlacesByKey keys sorted
sorted_by_key keys by_key sorted s p r = record {
  own = All-permutation (λ keyed. (keyed.1 < length keys) × (slice_index keys keyed.1 ≡ keyed.0)) by_key sorted p s.own;
  every = λ k l. elim (s.every k l) [ inl c ↦ inl (Contains-permutation by_key sorted (slice_index keys k, k) p c) | inr o ↦ inr o ];
  rising = r;
}

-- one key with its place does not come after another
abbrev Before : ℕ × ℕ → ℕ × ℕ → Type 0
Before x y = (x.0 < y.0) ⊎ ((x.0 ≡ y.0) × (x.1 ≤ y.1))

later : (a b c d : ℕ) → is_lt (ordering_then (nat_cmp a b) (nat_cmp c d)) ≡ false → Before (b, d) (a, c)
later a b c d e = grind (arith, nat_tests)

module _ (by_key : List (ℕ × ℕ)) (r : IsSorted (λ x y. ordering_then (nat_cmp x.0 y.0) (nat_cmp x.1 y.1)) by_key) where
  far : (i m : ℕ) (d : ℕ × ℕ) → i + m < length by_key → Before (get_or by_key i d) (get_or by_key (i + m) d)
  far i zero d l = subst (λ n. Before (get_or by_key i d) (get_or by_key n d)) (omega arith) (inr (refl, omega arith))
  far i (suc m) d l =
      let x = get_or by_key i d in
      let y = get_or by_key (i + m) d in
      let n : i + m + 1 ≡ i + suc m = omega arith in
      subst (λ n. Before (get_or by_key i d) (get_or by_key n d)) n
      (joined x y (get_or by_key (i + m + 1) d) (far i m d (omega arith)) (later _ _ _ _ (r (i + m) d (omega arith) (omega arith))))
    where
      joined : (x y z : ℕ × ℕ) → Before x y → Before y z → Before x z
      joined x y z (inl a) (inl b) = inl (omega arith)
      joined x y z (inl a) (inr b) = let c = b.0 in inl (omega arith)
      joined x y z (inr a) (inl b) = let c = a.0 in inl (omega arith)
      joined x y z (inr a) (inr b) = let c = a.1 in let d = b.1 in inr (a.0 ∙ b.0, omega arith)

  -- sorted, none comes after a later one
  pub ordered : (i j : ℕ) (d : ℕ × ℕ) → i ≤ j → j < length by_key → Before (get_or by_key i d) (get_or by_key j d)
  ordered i j d l m = let n : i + (j - i) ≡ j = omega arith in subst (λ n. Before (get_or by_key i d) (get_or by_key n d)) n
      (far i (j - i) d (omega arith))

-- the key and the place at i
abbrev pub keyed_at : List (ℕ × ℕ) → ℕ → ℕ × ℕ
keyed_at by_key i = get_or by_key i (0, 0)

-- the place k is at i or after it, so the first place of its key is still to be set
abbrev pub IsWaiting : List ℕ → List (ℕ × ℕ) → ℕ → ℕ → Type 0
IsWaiting keys by_key i k = (j : ℕ) × (i ≤ j) × (j < length by_key) × (keyed_at by_key j ≡ (slice_index keys k, k))

-- up to i the first place of each key is known; the group is the last key with its first place
pub record Filling (keys : List ℕ) (by_key : List (ℕ × ℕ)) (firsts : List ℕ) (group : ℕ × ℕ) (i : ℕ) : Type 0 where
  pub sorted : ArePlacesByKey keys by_key
  pub level : length firsts ≡ length keys
  pub done : (k : ℕ) → k < length keys → IsFirstOf keys (slice_index keys k) (slice_index firsts k) ⊎ IsWaiting keys by_key i k
  pub head : 0 < i → IsFirstOf keys group.0 group.1
  pub last : 0 < i → (keyed_at by_key (i - 1)).0 ≡ group.0

-- at first the keys that occur once have their own place, and the others wait
pub none_filled : (keys : List ℕ) (by_key : List (ℕ × ℕ)) (firsts : List ℕ) (group : ℕ × ℕ) → ArePlacesByKey keys by_key
    → AreThemselves (length keys) firsts → Filling keys by_key firsts group 0
none_filled keys by_key firsts group s t = record {
  sorted = s;
  level = t.level;
  done = λ k l. one k l (s.every k l);
  head = λ n. absurd (omega arith);
  last = λ n. absurd (omega arith);
}
  where
    alone : (k : ℕ) → k < length keys → IsOnce keys k → IsFirstOf keys (slice_index keys k) k
    alone k l o = record { within = l; at = refl; before = λ j m e. absurd (let same = o j (omega arith) e in omega arith) }

    one : (k : ℕ) → k < length keys → Contains by_key (slice_index keys k, k) ⊎ IsOnce keys k
        → IsFirstOf keys (slice_index keys k) (slice_index firsts k) ⊎ IsWaiting keys by_key 0 k
    one k l (inl (j, m, at)) = inr (j, omega arith, m, get_or_default by_key j (0, 0) (slice_index keys k, k) m ∙ at)
    one k l (inr o) = inl (subst (IsFirstOf keys (slice_index keys k)) (sym (t.each k l)) (alone k l o))

after : (x y : ℕ × ℕ) → Before x y → y.0 ≡ x.0 → y.1 < x.1 → ⊥
after x y (inl b) e l = absurd (omega arith)
after x y (inr b) e l = let c = b.1 in absurd (omega arith)

squeezed : (x y z : ℕ × ℕ) → Before x y → Before y z → x.0 ≡ z.0 → z.0 ≡ y.0
squeezed x y z (inl a) (inl b) e = absurd (omega arith)
squeezed x y z (inl a) (inr b) e = sym b.0
squeezed x y z (inr a) b e = sym e ∙ a.0

module _ (keys : List ℕ) (by_key : List (ℕ × ℕ)) (firsts : List ℕ) (group : ℕ × ℕ) (i : ℕ) (f : Filling keys by_key firsts group i)
    (lt : i < length by_key) where
  -- each place is within the list of first places
  pub within : (keyed_at by_key i).1 < length firsts
  within = let o = (f.sorted.own i (0, 0) lt).0 in let level = f.level in omega arith

  own : slice_index keys (keyed_at by_key i).1 ≡ (keyed_at by_key i).0
  own = (f.sorted.own i (0, 0) lt).1

  -- if the key is not that of the one before, the place is the first with its key
  is_first : (i ≡ 0) ⊎ ((keyed_at by_key i).0 ≢ group.0) → IsFirstOf keys (keyed_at by_key i).0 (keyed_at by_key i).1
  is_first n = record {
    within = (f.sorted.own i (0, 0) lt).0;
    at = own;
    before = λ k l e. earlier k l e (f.sorted.every k (let o = (f.sorted.own i (0, 0) lt).0 in omega arith));
  }
    where
      placed : (k j : ℕ) → k < (keyed_at by_key i).1 → slice_index keys k ≡ (keyed_at by_key i).0 → j < length by_key
          → keyed_at by_key j ≡ (slice_index keys k, k) → (j < i) ⊎ (i ≤ j) → (i ≡ 0) ⊎ ((keyed_at by_key i).0 ≢ group.0) → ⊥
      placed k j l e m at (inl o) (inl z) = absurd (omega arith)
      placed k j l e m at (inl o) (inr other) =
          let a = ordered by_key f.sorted.rising j (i - 1) (0, 0) (omega arith) (omega arith) in
          let b = ordered by_key f.sorted.rising (i - 1) i (0, 0) (omega arith) lt in
          let same = ap (λ (x : ℕ × ℕ). x.0) at ∙ e in
          other (squeezed (keyed_at by_key j) (keyed_at by_key (i - 1)) (keyed_at by_key i) a b same ∙ f.last (omega arith))
      placed k j l e m at (inr o) n =
          let a = ordered by_key f.sorted.rising i j (0, 0) o m in
          after (keyed_at by_key i) (keyed_at by_key j) a (ap (λ (x : ℕ × ℕ). x.0) at ∙ e)
          (subst (λ (x : ℕ × ℕ). x.1 < (keyed_at by_key i).1)
          (sym at) l)

      earlier : (k : ℕ) → k < (keyed_at by_key i).1 → slice_index keys k ≡ (keyed_at by_key i).0 → Contains by_key (slice_index keys k, k)
          ⊎ IsOnce keys k → ⊥
      earlier k l e (inl (j, m, at)) = placed k j l e m (get_or_default by_key j (0, 0) (slice_index keys k, k) m ∙ at) (cases_lt j i) n
      earlier k l e (inr o) = let same = o (keyed_at by_key i).1 (f.sorted.own i (0, 0) lt).0 (own ∙ sym e) in omega arith

  -- once the first place of the key is written
  told : (group' : ℕ × ℕ) (firsts' : List ℕ) → group'.0 ≡ (keyed_at by_key i).0 → IsFirstOf keys group'.0 group'.1
      → firsts' ≡ slice_set firsts (keyed_at by_key i).1 group'.1 → Filling keys by_key firsts' group' (i + 1)
  told group' firsts' k first set = record {
    sorted = f.sorted;
    level = ap length set ∙ simp length-set f.level;
    done = λ m l. one m (cases_order m (keyed_at by_key i).1) (f.done m l);
    head = λ _. first;
    last = λ _. let n : i + 1 - 1 ≡ i = omega arith in subst (λ n. (keyed_at by_key n).0 ≡ group'.0) (sym n) (sym k);
  }
    where
      here : IsFirstOf keys (keyed_at by_key i).0 (slice_index firsts' (keyed_at by_key i).1)
      here =
          let at : slice_index firsts' (keyed_at by_key i).1 ≡ group'.1 = ap (λ xs. slice_index xs (keyed_at by_key i).1) set
          ∙ (let w = within in rw get_or-set_same refl) in
          subst (IsFirstOf keys (keyed_at by_key i).0) (sym at) (subst (λ x. IsFirstOf keys x group'.1) k first)

      alike : (m : ℕ) → m ≡ (keyed_at by_key i).1 → IsFirstOf keys (slice_index keys m) (slice_index firsts' m)
      alike m e = subst (λ n. IsFirstOf keys (slice_index keys n) (slice_index firsts' n)) (sym e)
          (subst (λ x. IsFirstOf keys x (slice_index firsts' (keyed_at by_key i).1)) (sym own) here)

      later_still : (m j : ℕ) → i ≤ j → keyed_at by_key j ≡ (slice_index keys m, m) → m ≢ (keyed_at by_key i).1
          → (i ≡ j) ⊎ ((i < j) ⊎ (j < i))
          → i + 1 ≤ j
      later_still m j from at ne (inl q) = absurd (ne (sym (ap (λ n. (keyed_at by_key n).1) q ∙ ap (λ (x : ℕ × ℕ). x.1) at)))
      later_still m j from at ne (inr (inl q)) = omega arith
      later_still m j from at ne (inr (inr q)) = absurd (omega arith)

      apart : (m : ℕ) → m ≢ (keyed_at by_key i).1 → IsFirstOf keys (slice_index keys m) (slice_index firsts m) ⊎ IsWaiting keys by_key i m
          → IsFirstOf keys (slice_index keys m) (slice_index firsts' m) ⊎ IsWaiting keys by_key (i + 1) m
      apart m ne (inl d) =
          let at : slice_index firsts' m ≡ slice_index firsts m = ap (λ xs. slice_index xs m) set ∙ rw get_or-set_other refl in
          inl (subst (IsFirstOf keys (slice_index keys m)) (sym at) d)
      apart m ne (inr (j, from, to, at)) = inr (j, later_still m j from at ne (cases_order i j), to, at)

      one : (m : ℕ) → (m ≡ (keyed_at by_key i).1) ⊎ ((m < (keyed_at by_key i).1) ⊎ ((keyed_at by_key i).1 < m))
          → IsFirstOf keys (slice_index keys m) (slice_index firsts m) ⊎ IsWaiting keys by_key i m
          → IsFirstOf keys (slice_index keys m) (slice_index firsts' m) ⊎ IsWaiting keys by_key (i + 1) m
      one m (inl q) d = inl (alike m q)
      one m (inr (inl q)) d = apart m (λ e. omega arith) d
      one m (inr (inr q)) d = apart m (λ e. omega arith) d

  -- a place with the key of the one before it has that key's first place
  pub key_goes_on : (firsts' : List ℕ) → firsts' ≡ slice_set firsts (keyed_at by_key i).1 group.1 → 0 < i → (keyed_at by_key i).0 ≡ group.0
      → Filling keys by_key firsts' group (i + 1)
  key_goes_on firsts' set l e = told group firsts' (sym e) (f.head l) set

  -- a place with another key, or the first one of all, is the first place of its key
  pub key_begins : (group' : ℕ × ℕ) (firsts' : List ℕ) → group' ≡ keyed_at by_key i
      → firsts' ≡ slice_set firsts (keyed_at by_key i).1 group'.1
      → (i ≡ 0) ⊎ ((keyed_at by_key i).0 ≢ group.0) → Filling keys by_key firsts' group' (i + 1)
  key_begins group' firsts' g set n = told group' firsts' (ap (λ (x : ℕ × ℕ). x.0) g) (subst (λ (x : ℕ × ℕ). IsFirstOf keys x.0 x.1)
      (sym g) (is_first n)) set

-- after the last one each place has the first place with its key
pub all_told : (keys : List ℕ) (by_key : List (ℕ × ℕ)) (firsts : List ℕ) (group : ℕ × ℕ) (i : ℕ) → length by_key ≤ i
    → Filling keys by_key firsts group i → AreFirsts keys firsts
all_told keys by_key firsts group i l f = record { level = f.level; each = λ k m. one k (f.done k m) }
  where
    one : (k : ℕ) → IsFirstOf keys (slice_index keys k) (slice_index firsts k) ⊎ IsWaiting keys by_key i k
        → IsFirstOf keys (slice_index keys k) (slice_index firsts k)
    one k (inl d) = d
    one k (inr (j, from, to, at)) = absurd (omega arith)
