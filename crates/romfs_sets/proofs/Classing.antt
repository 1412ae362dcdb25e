-- Classes of numbers by their names, in the order of these (IsClassing): each begins as its own
-- class (first_classed) and takes that of an equal one before it (taken) or keeps its own (begun),
-- up to all (all_classed). If none was equal, all names differ (all_unlike).
use Rattle.std.proofs.Common.{◌≡◌, ◌≢◌, ◌∙◌, sym, ap, subst, ℕ, zero, suc, ◌+◌, ◌-◌, ◌<◌, ◌≤◌, ◌⊎◌, inl, inr, List, [], ◌∷◌, ◌++◌, length, get_or, set, Option, Some, refl, arith, length-append, get_or-set_same, get_or-set_other, length-set, true, false}
use Rattle.std.specs.Ordering.{is_eq}
use Rattle.std.specs.declared.cmp.Ordering.{Ordering}
use Rattle.std.specs.declared.cmp.Ordering.TheVariants.{Less, Equal, Greater}
use Rattle.std.proofs.lemmas.Bool.{cases_eq, cases_order, false≢true}
use Rattle.std.proofs.lemmas.Option.{same_Some}
use Rattle.std.proofs.lemmas.List.{get_or_at, get_or_append_left, get_or_default}
use Rattle.romfs_sets.specs.declared.names.NumberedName.{NumberedName}
use Rattle.romfs_sets.specs.Names.{numbered_cmp, IsItsAlone, AreInNameOrder, AreNumbersBelow, AreClasses, AreNamesApart}
use Rattle.romfs_sets.proofs.Keyed.{below_or_at, between, one_name}

-- the numbers below n, and then n, are the numbers below the one after it
pub one_number : (n : ℕ) (xs : List ℕ) → AreNumbersBelow n xs → AreNumbersBelow (n + 1) (xs ++ n ∷ [])
one_number n xs w = record {
  sized = length-append xs (n ∷ []) ∙ ap (λ m. m + 1) w.sized;
  each = λ k l. elim (below_or_at k n l) [
    | inl m ↦ get_or_append_left xs (n ∷ []) 0 k (let s = w.sized in omega arith) ∙ w.each k m
    | inr m ↦ ap (λ j. get_or (xs ++ n ∷ []) j 0) m ∙ get_or_at xs n [] 0 n w.sized ∙ sym m
  ];
}

is_tie : (o : Ordering) → is_eq o ≡ true → o ≡ Equal
is_tie Equal e = refl
is_tie Less e = absurd (false≢true e)
is_tie Greater e = absurd (false≢true e)

-- the value for a name if there is none
abbrev pub nothing : NumberedName
nothing = record { hash = 0; name = record { ref_ptr = (0, 0); now = [] }; number = 0 }

-- the number at a place of the list; 0 past its end
abbrev pub number_at : List NumberedName → ℕ → ℕ
number_at hs m = (get_or hs m nothing).number

-- the name at a place of the list; the empty one past its end
abbrev pub name_at : List NumberedName → ℕ → List ℕ
name_at hs m = (get_or hs m nothing).name.now

-- the names before place i of hs have their classes, and each other number has itself
pub record IsClassing (name : ℕ → Option (List ℕ)) (n : ℕ) (hs : List NumberedName) (class : List ℕ) (i : ℕ) : Type 0 where
  pub sized : length class ≡ n + 1
  pub rest : (k : ℕ) → k < n + 1 → ((m : ℕ) → m < i → m < length hs → number_at hs m ≢ k) → get_or class k 0 ≡ k
  pub own : (m : ℕ) → m < i → m < length hs
      → (get_or class (number_at hs m) 0 < n) × (name (get_or class (number_at hs m) 0) ≡ Some (name_at hs m))
  pub alike : (l m : ℕ) → l < i → m < i → l < length hs → m < length hs → name_at hs l ≡ name_at hs m
      → get_or class (number_at hs l) 0 ≡ get_or class (number_at hs m) 0

-- of the names before place i of hs none is that of the one before it
pub record AreUnlike (hs : List NumberedName) (i : ℕ) : Type 0 where
  pub each : (m : ℕ) → 0 < m → m < i → m < length hs
      → numbered_cmp (get_or hs (m - 1) nothing) (get_or hs m nothing) ≢ Equal

-- the first name has none before it
pub none_unlike : (hs : List NumberedName) → AreUnlike hs 1
none_unlike hs = record { each = λ m p l. absurd (omega arith) }

-- with a further name that differs from the one before it, none is that of the one before it
pub one_unlike : (hs : List NumberedName) (i : ℕ) (o : Ordering)
    → o ≡ numbered_cmp (get_or hs (i - 1) nothing) (get_or hs i nothing) → is_eq o ≡ false
    → AreUnlike hs i → AreUnlike hs (i + 1)
one_unlike hs i o stand differ w = record {
  each = λ m p l q. elim (below_or_at m i l) [
    | inl b ↦ w.each m p b q
    | inr b ↦ (λ e. absurd (false≢true (sym differ ∙ ap is_eq (stand ∙ here m b ∙ e))))
  ];
}
  where
    here : (m : ℕ) → m ≡ i → numbered_cmp (get_or hs (i - 1) nothing) (get_or hs i nothing)
        ≡ numbered_cmp (get_or hs (m - 1) nothing) (get_or hs m nothing)
    here m b = ap (λ k. numbered_cmp (get_or hs (k - 1) nothing) (get_or hs k nothing)) (sym b)

seek : (hs : List NumberedName) (k : ℕ)
    → ((m : ℕ) × (m < length hs) × (number_at hs m ≡ k)) ⊎ ((m : ℕ) → m < length hs → number_at hs m ≢ k)
seek [] k = inr (λ m l. absurd (omega arith))
seek (h ∷ hs) k = elim (cases_eq h.number k) [
  | inl e ↦ inl (0, omega arith, e)
  | inr d ↦ elim (seek hs k) [
    | inl x ↦ inl (suc x.0, (let l = x.1 in omega arith), x.2)
    | inr free ↦ inr (λ m l. past m l d free)
  ]
]
  where
    past : (m : ℕ) → m < length (h ∷ hs) → h.number ≢ k → ((j : ℕ) → j < length hs → number_at hs j ≢ k)
        → number_at (h ∷ hs) m ≢ k
    past zero l d free = d
    past (suc m) l d free = free m (omega arith)

module _ (name : ℕ → Option (List ℕ)) (n : ℕ) (hs : List NumberedName) (by : AreInNameOrder name n hs) where
  owned : (m : ℕ) → m < length hs → name (number_at hs m) ≡ Some (name_at hs m)
  owned m l = (by.are.each m nothing l).own

  -- the names of one number are the same
  named_alike : (l m : ℕ) → l < length hs → m < length hs → number_at hs l ≡ number_at hs m
      → name_at hs l ≡ name_at hs m
  named_alike l m p q e = same_Some _ _ (sym (owned l p) ∙ ap name e ∙ owned m q)

  -- if each number is its own class, the first name has its class
  pub first_classed : (class : List ℕ) → AreNumbersBelow (n + 1) class → IsClassing name n hs class 1
  first_classed class w = record {
    sized = w.sized;
    rest = λ k l _. w.each k l;
    own = λ m l p. (
        let b = (by.are.each m nothing p).below in
        let e = w.each (number_at hs m) (omega arith) in
        (omega arith, ap name e ∙ owned m p));
    alike = λ l m p q _ _ _. ap (λ k. get_or class (number_at hs k) 0) (omega arith);
  }

  module _ (class : List ℕ) (i : ℕ) (w : IsClassing name n hs class i) (from : 0 < i) (lt : i < length hs) where
    -- the name at i has its class, and those before it still have theirs
    one_classed : (class' : List ℕ) → length class' ≡ n + 1
        → ((k : ℕ) → k < n + 1 → ((m : ℕ) → m < i + 1 → m < length hs → number_at hs m ≢ k) → get_or class' k 0 ≡ k)
        → ((m : ℕ) → m < i → get_or class' (number_at hs m) 0 ≡ get_or class (number_at hs m) 0)
        → (get_or class' (number_at hs i) 0 < n) × (name (get_or class' (number_at hs i) 0) ≡ Some (name_at hs i))
        → ((m : ℕ) → m < i → name_at hs m ≡ name_at hs i
        → get_or class' (number_at hs m) 0 ≡ get_or class' (number_at hs i) 0)
        → IsClassing name n hs class' (i + 1)
    one_classed class' sized rest kept here level = record {
      sized = sized;
      rest = rest;
      own = λ m p q. elim (below_or_at m i p) [
        | inl b ↦ subst (λ c. (c < n) × (name c ≡ Some (name_at hs m))) (sym (kept m b)) (w.own m b q)
        | inr b ↦ subst (λ k. (get_or class' (number_at hs k) 0 < n)
            × (name (get_or class' (number_at hs k) 0) ≡ Some (name_at hs k))) (sym b) here
      ];
      alike = λ l m p q x y e. elim (below_or_at l i p) [
        | inl b ↦ elim (below_or_at m i q) [
          | inl c ↦ kept l b ∙ w.alike l m b c x y e ∙ sym (kept m c)
          | inr c ↦ level l b (e ∙ ap (name_at hs) c) ∙ ap (λ k. get_or class' (number_at hs k) 0) (sym c)
        ]
        | inr b ↦ elim (below_or_at m i q) [
          | inl c ↦ ap (λ k. get_or class' (number_at hs k) 0) b ∙ sym (level m c (sym e ∙ ap (name_at hs) b))
          | inr c ↦ ap (λ k. get_or class' (number_at hs k) 0) (b ∙ sym c)
        ]
      ];
    }

    -- a name that is the same as the one before it takes its class
    class_taken : (class' : List ℕ) → numbered_cmp (get_or hs (i - 1) nothing) (get_or hs i nothing) ≡ Equal
        → class' ≡ set class (number_at hs i) (get_or class (number_at hs (i - 1)) 0)
        → IsClassing name n hs class' (i + 1)
    class_taken class' e put = one_classed class' (ap length put ∙ simp length-set w.sized)
        (λ k l free. other k (λ f. free i (omega arith) lt (sym f)) ∙ w.rest k l (λ m p q. free m (omega arith) q))
        kept
        (subst (λ c. (c < n) × (name c ≡ Some (name_at hs i))) (sym here)
        (subst (λ t. (get_or class (number_at hs (i - 1)) 0 < n)
        × (name (get_or class (number_at hs (i - 1)) 0) ≡ Some t)) same
        (w.own (i - 1) (omega arith) (omega arith))))
        (λ m p f. kept m p ∙ taken m p f ∙ sym here)
      where
        same : name_at hs (i - 1) ≡ name_at hs i
        same = one_name (get_or hs (i - 1) nothing) (get_or hs i nothing) e

        here : get_or class' (number_at hs i) 0 ≡ get_or class (number_at hs (i - 1)) 0
        here =
            let b = (by.are.each i nothing lt).below in
            let s = w.sized in
            ap (λ xs. get_or xs (number_at hs i) 0) put ∙ get_or-set_same class (number_at hs i) _ 0 (omega arith)

        other : (k : ℕ) → k ≢ number_at hs i → get_or class' k 0 ≡ get_or class k 0
        other k d = ap (λ xs. get_or xs k 0) put ∙ get_or-set_other class (number_at hs i) k _ 0 d

        taken : (m : ℕ) → m < i → name_at hs m ≡ name_at hs i
            → get_or class (number_at hs m) 0 ≡ get_or class (number_at hs (i - 1)) 0
        taken m p f = w.alike m (i - 1) p (omega arith) (omega arith) (omega arith) (f ∙ sym same)

        kept : (m : ℕ) → m < i → get_or class' (number_at hs m) 0 ≡ get_or class (number_at hs m) 0
        kept m p = elim (cases_eq (number_at hs m) (number_at hs i)) [
          | inl f ↦ ap (λ k. get_or class' k 0) f ∙ here ∙ sym (taken m p (named_alike m i (omega arith) lt f))
          | inr d ↦ other _ d
        ]

    -- a name that differs from the one before it is the first of its kind, and keeps its number
    class_begun : numbered_cmp (get_or hs (i - 1) nothing) (get_or hs i nothing) ≢ Equal
        → IsClassing name n hs class (i + 1)
    class_begun ne = one_classed class w.sized
        (λ k l free. w.rest k l (λ m p q. free m (omega arith) q))
        (λ m p. refl)
        (subst (λ c. c < n) (sym here) (by.are.each i nothing lt).below, ap name here ∙ owned i lt)
        (λ m p f. absurd (unlike m p f))
      where
        unlike : (m : ℕ) → m < i → name_at hs m ≡ name_at hs i → ⊥
        unlike m p f = ne (between name n hs by m (i - 1) i nothing (omega arith) (omega arith) lt f)

        here : get_or class (number_at hs i) 0 ≡ number_at hs i
        here =
            let b : number_at hs i < n = (by.are.each i nothing lt).below in
            w.rest (number_at hs i) (omega arith) (λ m p q f. unlike m p (named_alike m i q lt f))

    -- the name at i and the one before it, and how they compare
    module _ (x y : NumberedName) (before : x ≡ get_or hs (i - 1) x) (at : y ≡ get_or hs i y)
        (o : Ordering) (stand : o ≡ numbered_cmp x y) where
      is_before : get_or hs (i - 1) nothing ≡ x
      is_before = get_or_default hs (i - 1) nothing x (omega arith) ∙ sym before

      is_at : get_or hs i nothing ≡ y
      is_at = get_or_default hs i nothing y lt ∙ sym at

      stood : o ≡ numbered_cmp (get_or hs (i - 1) nothing) (get_or hs i nothing)
      stood =
          stand ∙ ap (λ z. numbered_cmp z y) (sym is_before)
          ∙ ap (λ z. numbered_cmp (get_or hs (i - 1) nothing) z) (sym is_at)

      -- a name that equals the one before it has its class once it takes that one's
      pub taken : is_eq o ≡ true → (c : ℕ) → c ≡ get_or class x.number c
          → (class' : List ℕ) → class' ≡ set class y.number c → IsClassing name n hs class' (i + 1)
      taken t c own class' put = class_taken class' (sym stood ∙ is_tie o t)
          (put ∙ ap (λ (z : NumberedName). set class z.number c) (sym is_at) ∙ ap (set class (number_at hs i)) its)
        where
          its : c ≡ get_or class (number_at hs (i - 1)) 0
          its =
              let b : number_at hs (i - 1) < n = (by.are.each (i - 1) nothing (omega arith)).below in
              let e : number_at hs (i - 1) ≡ x.number = ap (λ (z : NumberedName). z.number) is_before in
              let s = w.sized in
              own ∙ get_or_default class x.number c 0 (omega arith) ∙ ap (λ k. get_or class k 0) (sym e)

      -- a name that differs from the one before it has its class in its own number
      pub begun : is_eq o ≡ false → IsClassing name n hs class (i + 1)
      begun f = class_begun (λ e. absurd (false≢true (sym f ∙ ap is_eq (stood ∙ e))))

  abbrev Place : ℕ → Type 0
  Place k = (m : ℕ) × (m < length hs) × (number_at hs m ≡ k)

  -- the place of a number among these, unless none has it
  placed : (k : ℕ) → Place k ⊎ ((m : ℕ) → m < length hs → number_at hs m ≢ k)
  placed k = seek hs k

  -- the place of a number with a name, unless it has the name alone
  found : (k : ℕ) (q : List ℕ) → k < n → name k ≡ Some q → Place k ⊎ IsItsAlone name n k
  found k q l e = elim (by.are.every k q l e) [
    | inl x ↦ (
        let at = x.1 in
        inl (at.0, at.1, ap (λ (h : NumberedName). h.number) (get_or_default hs at.0 nothing x.0 at.1 ∙ at.2) ∙ x.2))
    | inr o ↦ inr o
  ]

  -- after the last name two numbers have the same class exactly if they have the same name
  pub all_classed : (class : List ℕ) (i : ℕ) → length hs ≤ i → IsClassing name n hs class i → AreClasses name n class
  all_classed class i le w = record {
    sized = w.sized;
    below = λ k l. elim (placed k) [
      | inl x ↦ (let o = (own_of k x).0 in omega arith)
      | inr free ↦ (let e = alone k l free in omega arith)
    ];
    only = λ k j l p d e. elim (placed k) [
      | inl x ↦ elim (placed j) [
        | inl y ↦ (
          number_below k x,
          number_below j y,
          (
            name_at hs x.0,
            named_of k x,
            named_of j y ∙ sym (own_of j y).1 ∙ ap name (sym e) ∙ (own_of k x).1,
          ),
        )
        | inr free ↦ absurd (lone k j l p x free d e)
      ]
      | inr free ↦ elim (placed j) [
        | inl y ↦ absurd (lone j k p l y free (λ f. d (sym f)) (sym e))
        | inr other ↦ absurd (d (sym (alone k l free) ∙ e ∙ alone j p other))
      ]
    ];
    all = λ k j q l p e f. elim (found k q l e) [
      | inl x ↦ elim (found j q p f) [
        | inl y ↦
            ap (λ c. get_or class c 0) (sym x.2)
            ∙ w.alike x.0 y.0 (let b = x.1 in omega arith) (let b = y.1 in omega arith) x.1 y.1
            (same_Some _ _ (sym (named_of k x) ∙ e ∙ sym f ∙ named_of j y))
            ∙ ap (λ c. get_or class c 0) y.2
        | inr o ↦ ap (λ c. get_or class c 0) (o k l (e ∙ sym f))
      ]
      | inr o ↦ ap (λ c. get_or class c 0) (sym (o j p (f ∙ sym e)))
    ];
  }
    where
      number_below : (k : ℕ) → Place k → k < n
      number_below k x = let b = (by.are.each x.0 nothing x.1).below in let e = x.2 in omega arith

      named_of : (k : ℕ) (x : Place k) → name k ≡ Some (name_at hs x.0)
      named_of k x = ap name (sym x.2) ∙ owned x.0 x.1

      own_of : (k : ℕ) (x : Place k) → (get_or class k 0 < n) × (name (get_or class k 0) ≡ Some (name_at hs x.0))
      own_of k x = subst (λ j. (get_or class j 0 < n) × (name (get_or class j 0) ≡ Some (name_at hs x.0))) x.2
          (w.own x.0 (let b = x.1 in omega arith) x.1)

      alone : (k : ℕ) → k < n + 1 → ((m : ℕ) → m < length hs → number_at hs m ≢ k) → get_or class k 0 ≡ k
      alone k l free = w.rest k l (λ m _ q. free m q)

      lone : (k j : ℕ) → k < n + 1 → j < n + 1 → Place k → ((m : ℕ) → m < length hs → number_at hs m ≢ j) → k ≢ j
          → get_or class k 0 ≡ get_or class j 0 → ⊥
      lone k j l p x free d e =
          let f : get_or class k 0 ≡ j = e ∙ alone j p free in
          let o = subst (λ c. (c < n) × (name c ≡ Some (name_at hs x.0))) f (own_of k x) in
          elim (found j _ o.0 o.1) [
            | inl y ↦ free y.0 y.1 y.2
            | inr a ↦ d (a k (number_below k x) (named_of k x ∙ sym o.1))
          ]

  -- if no name is that of the one before it, each number with a name has its name alone
  pub all_unlike : (i : ℕ) → length hs ≤ i → AreUnlike hs i → AreNamesApart name n
  all_unlike i le w = record {
    each = λ k j q l p e f. elim (found k q l e) [
      | inl x ↦ elim (found j q p f) [
        | inl y ↦ sym x.2 ∙ ap (number_at hs) (one_place x.0 y.0 x.1 y.1
            (same_Some _ _ (sym (named_of k x) ∙ e ∙ sym f ∙ named_of j y))) ∙ y.2
        | inr o ↦ o k l (e ∙ sym f)
      ]
      | inr o ↦ sym (o j p (f ∙ sym e))
    ];
  }
    where
      named_of : (k : ℕ) (x : Place k) → name k ≡ Some (name_at hs x.0)
      named_of k x = ap name (sym x.2) ∙ owned x.0 x.1

      apart : (l m : ℕ) → l < m → m < length hs → name_at hs l ≡ name_at hs m → ⊥
      apart l m b q e = w.each m (omega arith) (omega arith) q
          (between name n hs by l (m - 1) m nothing (omega arith) (omega arith) q e)

      one_place : (l m : ℕ) → l < length hs → m < length hs → name_at hs l ≡ name_at hs m → l ≡ m
      one_place l m p q e = elim (cases_order l m) [
        | inl b ↦ b
        | inr (inl b) ↦ absurd (apart l m b q e)
        | inr (inr b) ↦ absurd (apart m l b p (sym e))
      ]

-- the number of a name is one that has a class
pub number_fits : {n i : ℕ} {hs : List NumberedName} {class : List ℕ} → (name : ℕ → Option (List ℕ)) × AreInNameOrder name n hs
    → ((name : ℕ → Option (List ℕ)) → AreInNameOrder name n hs → IsClassing name n hs class i)
    → (k : ℕ) (h : NumberedName) → k < length hs → h ≡ get_or hs k h → h.number < length class
number_fits {hs = hs} by w k h l e =
    let b = (by.1.are.each k h l).below in
    let s = (w by.0 by.1).sized in
    let f : h.number ≡ (get_or hs k h).number = ap (λ (x : NumberedName). x.number) e in
    omega arith
