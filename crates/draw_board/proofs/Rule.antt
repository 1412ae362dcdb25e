-- Each step keeps the rule: `draws`, `announces`, `looks`, `splits` and `joins`. They use `moved` and `unmoved`, which put a new view in a
-- seat and compute the sums of all views. `closes` is what the rule says at the end.
use Rattle.std.proofs.Common.{◌≡◌, ℕ, ◌+◌, ◌-◌, ◌%◌, ◌^◌, ◌<◌, ◌≤◌, ◌≢◌, ◌⊎◌, cond, eqb, max, List, [], ◌∷◌, ◌++◌, length, get_or, set, sym, refl, ap, ◌∙◌, subst, inl, inr, ⊎_elim, arith, length-set, length-append, get_or-set_same, lt-ltb, le-ltb, lt_of_not-le, sum_by}
use mathlib.Core.Logic.{dite}
use mathlib.Core.Option.{none, some, some-injective, some-ne-none}
use native.Mathlib.Decide.{ℕ_discrete, dec_le}
use lib.ListN.{get_elem?}
use prog.Atomic.{either}
use Rattle.std.specs.List.{range_with_len}
use Rattle.std.proofs.lemmas.List.Sums.{sum_by_push}
use Rattle.atomic_table.specs.Table.{step, keeps, stepped, Allows, Splits, Joins, Final, Seen}
use Rattle.atomic_table.proofs.Lists.{at_set, at_snoc, set_else, exchanged}
use Rattle.draw_board.specs.declared.view.View.{View}
use Rattle.draw_board.specs.Positions.{times}
use Rattle.draw_board.specs.Views.{Key, Table, Seated, IsSoundView, FitsBoard, IsSoundBoard, after_draw, giver_view, given_view, joined_view, spent_view, drew, announced, looked}
use Rattle.draw_board.proofs.Sums.{sum_by-set, term_le, all_zero, sum_by-le, all_here}
use Rattle.draw_board.proofs.Rising.{one-same, one-other, times-push, times-merged, length-merged, rises-up, rises-push, none_above, rises-merged, rises-whole}

-- the terms of the rule's sums
abbrev held : ℕ → View → ℕ
held x v = times x v.positions

abbrev drawn : View → ℕ
drawn v = length v.positions

abbrev shared : View → ℕ
shared v = v.share

abbrev misses : View → ℕ
misses v = v.left

-- after a draw at p the view has this many misses left: as many if p is a number, otherwise one less
abbrev IsCharged : View → ℕ → Type 0
IsCharged v p = ((p < v.total) × ((after_draw v p).left ≡ v.left)) ⊎ ((v.total ≤ p) × ((after_draw v p).left + 1 ≡ v.left))

charged : (v : View) (p : ℕ) → 1 ≤ v.left → IsCharged v p
charged v p some_left = go (dec_le v.total p)
  where
    go : Dec (v.total ≤ p) → IsCharged v p
    go (yes d) = inr (d, ap (λ b. cond b v.left (v.left - 1) + 1) (le-ltb p v.total d) ∙ omega arith)
    go (no n) = inl (lt_of_not-le n, ap (λ b. cond b v.left (v.left - 1)) (lt-ltb p v.total (lt_of_not-le n)))

sound_after : (v : View) (p : ℕ) → 1 ≤ v.left → IsSoundView v → v.seen ≤ p → IsSoundView (after_draw v p)
sound_after v p some_left s unseen = let fits = s.within_share in let miss = s.missed in record {
  rises = rises-push 0 v.positions v.seen p s.rises unseen;
  within_share = ⊎_elim (λ t. omega (arith, t.1)) (λ t. omega (arith, t.1)) (charged v p some_left);
  missed = ⊎_elim (λ (t : (p < v.total) × ((after_draw v p).left ≡ v.left)). λ h. let same = t.1 in let m = miss (omega arith) in
      omega arith)
      (λ (t : (v.total ≤ p) × ((after_draw v p).left + 1 ≡ v.left)). λ h. let d = t.0 in omega arith) (charged v p some_left);
}

-- the other views stay as they are, and the word does not fall
each_after : (key : Key) (vs : List View) (n n' id : ℕ) (w : View)
    → ((j : ℕ) (v : View) → get_elem? vs j ≡ some v → FitsBoard key n v) → n ≤ n' → FitsBoard key n' w
    → (j : ℕ) (v : View) → get_elem? (set vs id w) j ≡ some v → FitsBoard key n' v
each_after key vs n n' id w each h fits j v e = ⊎_elim (λ (t : (j ≡ id) × (w ≡ v)). subst (FitsBoard key n') t.1 fits)
    (λ (t : (j ≢ id) × (get_elem? vs j ≡ some v)). let o = each j v t.1 in let p = o.passed in
    record { sound = o.sound; passed = omega arith; spent = o.spent; told = o.told })
    (at_set vs id j w v e)

-- a step that leaves the word at n and the seat with the view w
moved : (key : Key) (s : Table) (r : IsSoundBoard key s) (n id : ℕ) (me : Seated) (w : View) → get_or s.words 0 0 ≤ n → FitsBoard key n w
    → ((x : ℕ) → sum_by (held x) (set s.views id w) ≤ 1)
    → sum_by drawn (set s.views id w) ≡ n
    → sum_by shared (set s.views id w) ≡ key.1
    → n + sum_by misses (set s.views id w) ≤ key.0 + key.1
    → IsSoundBoard key (stepped s 0 n id me.1 w keeps)
moved key s r n id me w h fits once all_drawn all_shares bounded = let wide = r.one_word in
    let now : get_or (set s.words 0 n) 0 0 ≡ n = get_or-set_same s.words 0 n 0 (omega arith) in record {
      one_word = length-set s.words 0 n ∙ wide;
      room = r.room;
      each = subst (λ (z : ℕ). (j : ℕ) (v : View) → get_elem? (set s.views id w) j ≡ some v → FitsBoard key z v)
          (sym now) (each_after key s.views (get_or s.words 0 0) n id w r.each h fits);
      once = once;
      all_drawn = all_drawn ∙ sym now;
      all_shares = all_shares;
      bounded = subst (λ (z : ℕ). z + sum_by misses (set s.views id w) ≤ key.0 + key.1) (sym now) bounded;
    }

-- a hand with a miss left may draw, which keeps the rule and gives a position that is new to it
pub draws : (key : Key) (slots id : ℕ) (me : Seated) → 1 ≤ me.0.left → 1 ≤ me.0.share
    → Allows (IsSoundBoard key) slots id me 0 (λ n. (n + 1) % 2 ^ 64) (drew (step slots 0 1 0 none) me)
draws key slots id me some_left live s r _ at small = (
  w,
  keeps,
  tt,
  subst
      (λ (z : ℕ). IsSoundBoard key (stepped s 0 z id me.1 w keeps)) next kept,
  (refl, fits.passed, sound),
)
  where
    v : View
    v = me.0

    n : ℕ
    n = get_or s.words 0 0

    w : View
    w = after_draw v n

    fits : FitsBoard key n v
    fits = r.each id v at

    sound : IsSoundView w
    sound = sound_after v n some_left fits.sound fits.passed

    -- no view has a position that the word has not reached
    free : (x : ℕ) → n ≤ x → sum_by (held x) s.views ≡ 0
    free x h = all_zero (held x) s.views (λ j u e. let o = r.each j u e in let p = o.passed in
        none_above 0 u.positions u.seen x o.sound.rises (omega arith))

    once : (x : ℕ) → sum_by (held x) (set s.views id w) ≤ 1
    once x = let sum = sum_by-set (held x) s.views id v w at in let t = times-push x n v.positions in let before = r.once x in
        dite (ℕ_discrete n x) (λ e. omega (arith, free x (omega arith), one-same n x e)) (λ ne. omega (arith, one-other n x ne))

    all_drawn : sum_by drawn (set s.views id w) ≡ n + 1
    all_drawn = let sum = sum_by-set drawn s.views id v w at in let before = r.all_drawn in
        omega (arith, length-append v.positions (n ∷ []))

    all_shares : sum_by shared (set s.views id w) ≡ key.1
    all_shares = let sum = sum_by-set shared s.views id v w at in let before = r.all_shares in omega arith

    few : sum_by misses s.views ≤ key.1
    few = let le = sum_by-le misses shared s.views (λ j u e. (r.each j u e).sound.within_share) in let before = r.all_shares in omega arith

    bounded : n + 1 + sum_by misses (set s.views id w) ≤ key.0 + key.1
    bounded = let sum = sum_by-set misses s.views id v w at in let told = fits.told live in let before = r.bounded in
        ⊎_elim (λ (t : (n < v.total) × (w.left ≡ v.left)). let lt = t.0 in let same = t.1 in let total = told.0 in omega (arith, few))
        (λ (t : (v.total ≤ n) × (w.left + 1 ≡ v.left)). let less = t.1 in omega arith) (charged v n some_left)

    -- the word does not wrap
    next : n + 1 ≡ (n + 1) % 18446744073709551616
    next = let before = r.bounded in let room = r.room in let low = term_le misses s.views id v at in omega arith

    kept : IsSoundBoard key (stepped s 0 (n + 1) id me.1 w keeps)
    kept = moved key s r (n + 1) id me w (omega arith)
        (record { sound = sound; passed = omega arith; spent = λ z. absurd (omega arith); told = fits.told })
        once all_drawn all_shares bounded

-- a step after which the word is the same, and the view has the same positions, misses and share
unmoved : (key : Key) (s : Table) (r : IsSoundBoard key s) (id : ℕ) (me : Seated) (w : View)
    → get_elem? s.views id ≡ some me.0 → FitsBoard key (get_or s.words 0 0) w
    → w.positions ≡ me.0.positions → w.left ≡ me.0.left → w.share ≡ me.0.share
    → IsSoundBoard key (stepped s 0 (get_or s.words 0 0) id me.1 w keeps)
unmoved key s r id me w at fits same left share = let v : View = me.0 in moved key s r (get_or s.words 0 0) id me w (omega arith) fits
    (λ x. let sum = sum_by-set (held x) s.views id v w at in let t = ap (times x) same in let before = r.once x in omega arith)
    (let sum = sum_by-set drawn s.views id v w at in let t = ap length same in let before = r.all_drawn in omega arith)
    (let sum = sum_by-set shared s.views id v w at in let before = r.all_shares in omega arith)
    (let sum = sum_by-set misses s.views id v w at in let before = r.bounded in omega arith)

-- a hand may announce how many misses a split will move, which keeps the rule
pub announces : (key : Key) (slots id : ℕ) (me : Seated) (k : ℕ)
    → Allows (IsSoundBoard key) slots id me 0 (λ n. either (eqb n k) k n) (announced (step slots 0 k k none) me)
announces key slots id me k s r _ at small = let fits = r.each id me.0 at in let n : ℕ = get_or s.words 0 0 in let w : View =
    record me.0 { asked = k } in
    let kept = unmoved key s r id me w at (record {
      sound = record
          { rises = fits.sound.rises; within_share = fits.sound.within_share; missed = fits.sound.missed };
      passed = fits.passed;
      spent = fits.spent;
      told = fits.told;
    }) refl refl refl in (
      w,
      keeps,
      tt,
      exchanged n k k (λ z. IsSoundBoard key (stepped s 0 z id me.1 w keeps))
          (λ e. subst (λ (z : ℕ). IsSoundBoard key (stepped s 0 z id me.1 w keeps)) e kept) (λ _. kept),
      refl,
    )

-- a live hand may look, which changes nothing and shows that its view is sound
pub looks : (key : Key) (slots id : ℕ) (me : Seated) → 1 ≤ me.0.share → Allows (IsSoundBoard key) slots id me 0 (λ n. n)
    (looked (step slots 0 0 0 none) me)
looks key slots id me live s r _ at small = let fits = r.each id me.0 at in let told = fits.told live in
    let le = term_le shared s.views id me.0 at in let shares = r.all_shares in let of = told.1 in
    (me.0, keeps, tt, unmoved key s r id me me.0 at fits refl refl refl, (refl, fits.sound, omega arith))

-- a hand may split off the misses that it announced, if some are left to it
pub splits : (key : Key) (id : ℕ) (v : View) → 1 ≤ v.asked → v.asked < v.left → Splits (IsSoundBoard key) id v (giver_view v) (given_view v)
splits key id v some_asked fewer s r at = record {
  one_word = r.one_word;
  room = r.room;
  each = λ j u e. ⊎_elim (λ (t : get_elem? (set s.views id a) j ≡ some u). each_after key s.views n n id a
      r.each (omega arith) giver_fits j u t) (λ (t : b ≡ u). subst (FitsBoard key n) t given_fits)
      (at_snoc (set s.views id a) b u j e);
  once = λ x. let sum = sums (held x) in let before = r.once x in omega arith;
  all_drawn = let sum = sums drawn in let before = r.all_drawn in omega arith;
  all_shares = let sum = sums shared in let fits = own.sound.within_share in let before = r.all_shares in omega arith;
  bounded = let sum = sums misses in let before = r.bounded in omega arith;
}
  where
    a : View
    a = giver_view v

    b : View
    b = given_view v

    n : ℕ
    n = get_or s.words 0 0

    own : FitsBoard key n v
    own = r.each id v at

    sums : (f : View → ℕ) → sum_by f (set s.views id a ++ b ∷ []) + f v ≡ sum_by f s.views + f a + f b
    sums f = let sum = sum_by-set f s.views id v a at in let more = sum_by_push f (set s.views id a) b in omega arith

    giver_fits : FitsBoard key n a
    giver_fits = let fits = own.sound.within_share in let miss = own.sound.missed in record {
      sound = record { rises = own.sound.rises; within_share = omega arith; missed = λ h. miss (omega arith) };
      passed = own.passed;
      spent = λ z. absurd (omega arith);
      told = λ _. own.told (omega arith);
    }

    given_fits : FitsBoard key n b
    given_fits = let fits = own.sound.within_share in record {
      sound = record { rises = omega arith; within_share = omega arith; missed = λ h. absurd (omega arith) };
      passed = own.passed;
      spent = λ z. refl;
      told = λ _. own.told (omega arith);
    }

-- a hand may take in another of its board, whose view is spent
pub joins : (key : Key) (id : ℕ) (v : View) (other : ℕ) (w : View) → 1 ≤ v.share → 1 ≤ w.share
    → Joins (IsSoundBoard key) id v other w (joined_view v w) spent_view
joins key id v other w live live' s r at apart at' = record {
  one_word = r.one_word;
  room = r.room;
  each = each_after key (set s.views id u) n n other spent_view (each_after key s.views n n id u r.each (omega arith) joined_fits)
      (omega arith) spent_fits;
  once = λ x. let t = times-merged x v.positions w.positions in let sum = sums (held x) in let before = r.once x in omega arith;
  all_drawn = let t = length-merged v.positions w.positions in let sum = sums drawn in let before = r.all_drawn in omega arith;
  all_shares = let sum = sums shared in let before = r.all_shares in omega arith;
  bounded = let sum = sums misses in let before = r.bounded in omega arith;
}
  where
    u : View
    u = joined_view v w

    n : ℕ
    n = get_or s.words 0 0

    there : get_elem? s.views other ≡ some w
    there = sym (set_else s.views id other u apart) ∙ at'

    own : FitsBoard key n v
    own = r.each id v at

    own' : FitsBoard key n w
    own' = r.each other w there

    sums : (f : View → ℕ) → sum_by f (set (set s.views id u) other spent_view) + f v + f w ≡ sum_by f s.views + f u + f spent_view
    sums f = let a = sum_by-set f s.views id v u at in let b = sum_by-set f (set s.views id u) other w spent_view at' in omega arith

    -- the two have no position in common
    once : (x : ℕ) → times x v.positions + times x w.positions ≤ 1
    once x = let a = sum_by-set (held x) s.views id v spent_view at in
        let b = term_le (held x) (set s.views id spent_view) other w
        (set_else s.views id other spent_view apart ∙ there) in let before = r.once x in omega arith

    joined_fits : FitsBoard key n u
    joined_fits = let p = own.passed in let p' = own'.passed in let f = own.sound.within_share in
        let f' = own'.sound.within_share in let miss = own.sound.missed in let miss' = own'.sound.missed in
        let total : v.total ≡ w.total = (own.told live).0 ∙ sym (own'.told live').0 in record {
          sound = record {
            rises = rises-merged 0 v.positions w.positions (max v.seen w.seen)
                (rises-up 0 v.positions v.seen (max v.seen w.seen) own.sound.rises (omega arith))
                (rises-up 0 w.positions w.seen (max v.seen w.seen) own'.sound.rises (omega arith)) once;
            within_share = omega arith;
            missed = λ h. dite (dec_le v.share v.left) (λ full. let m = miss' (omega arith) in omega arith)
                (λ not. let m = miss (lt_of_not-le not) in omega arith);
          };
          passed = omega arith;
          spent = λ z. absurd (omega arith);
          told = λ _. own.told live;
        }

    spent_fits : FitsBoard key n spent_view
    spent_fits = record {
      sound = record {
        rises = omega arith;
        within_share = omega arith;
        missed = λ h.
            absurd (omega arith);
      };
      passed = omega arith;
      spent = λ _. refl;
      told = λ h. absurd (omega arith);
    }

first_word : (l : List ℕ) (a : ℕ) → get_elem? l 0 ≡ some a → get_or l 0 0 ≡ a
first_word [] a e = absurd (some-ne-none a (sym e))
first_word (x ∷ xs) a e = some-injective x a e

-- if a view has all shares, its positions are all that were drawn
pub closes : (key : Key) (id : ℕ) (v : View) (ws : List ℕ) (xs : List (Unit {0})) (n : ℕ) → v.share ≡ key.1
    → Final (Seen (IsSoundBoard key) id v) ws xs → get_elem? ws 0 ≡ some n
    → (v.positions ≡ range_with_len 0 n) × (v.seen ≤ n)
closes key id v ws xs n all last found = let s = last.0 in let r = last.1.0 in let at = last.1.1 in
    let own = r.each id v at in let shares = r.all_shares in let counts = r.all_drawn in
    let passed = own.passed in
    let word : get_or s.words 0 0 ≡ n = ap (λ (l : List ℕ). get_or l 0 0) last.2 ∙ first_word ws n found in
    let only = all_here drawn shared s.views id v at (omega arith) (λ j u e z. ap length ((r.each j u e).spent z)) in
    let many : length v.positions ≡ n = omega arith in
    (rises-whole 0 v.positions v.seen own.sound.rises (omega arith) ∙ ap (range_with_len 0) many, omega arith)
