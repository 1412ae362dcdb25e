-- Numbers with their names, collected one by one (Holding: from none_named by one_without and
-- one_named to all_held) and put in the order of names (by_name). In that order equal names are
-- adjacent: what is between two with the same name has it too (between).
use Rattle.std.proofs.Common.{All, Contains, ◌≡◌, ◌∙◌, sym, ap, subst, ℕ, zero, suc, ◌+◌, ◌<◌, ◌≤◌, ◌⊎◌, inl, inr, List, [], ◌∷◌, ◌++◌, length, get_or, false, Option, Some, None, refl, arith}
use Rattle.std.specs.Cmp.Lexicographic.{slice_cmp}
use Rattle.std.specs.Ordering.{nat_cmp, is_lt, ordering_reverse}
use Rattle.std.specs.List.Sorted.{IsSorted, IsPermutation}
use Rattle.std.specs.declared.cmp.Ordering.{Ordering}
use Rattle.std.specs.declared.cmp.Ordering.TheVariants.{Less, Equal, Greater}
use Rattle.std.proofs.lemmas.Cmp.{nat_list_cmp_total}
use Rattle.std.proofs.lemmas.Map.Lookups.{exact_bytes}
use Rattle.std.proofs.lemmas.List.Elements.{All-push, Contains-push, Contains-append_left}
use Rattle.std.proofs.lemmas.List.Sorted.{ranks_by, sorted_far, All-permutation, Contains-permutation}
use Rattle.romfs_sets.specs.declared.names.NumberedName.{NumberedName}
use Rattle.romfs_sets.specs.Names.{name_hash, numbered_cmp, HasItsName, IsItsAlone, HoldTheShared, AreInNameOrder}

-- what is missing is not there
pub none_some : {X : Type 0} (x : X) → ◌≡◌ {A = Option X} None (Some x) → ⊥
none_some x e = cc

-- what is below the number after n is below n, or is n
pub below_or_at : (k n : ℕ) → k < n + 1 → (k < n) ⊎ (k ≡ n)
below_or_at zero zero l = inr refl
below_or_at zero (suc n) l = inl (omega arith)
below_or_at (suc k) zero l = absurd (omega arith)
below_or_at (suc k) (suc n) l =
    elim (below_or_at k n (omega arith)) [ inl m ↦ inl (omega arith) | inr m ↦ inr (ap suc m) ]

-- of the numbers below i those that have a name, but for some that have theirs alone
pub record Holding (name : ℕ → Option (List ℕ)) (n i : ℕ) (named : List NumberedName) : Type 0 where
  pub each : All (HasItsName name n) named
  pub every : (k : ℕ) (q : List ℕ) → k < i → name k ≡ Some q
      → ((h : NumberedName) × Contains named h × (h.number ≡ k)) ⊎ IsItsAlone name n k

module _ (name : ℕ → Option (List ℕ)) (n : ℕ) where
  -- before the first number there is none to hold
  pub none_named : Holding name n 0 []
  none_named = record { each = λ k d l. absurd (omega arith); every = λ k q l. absurd (omega arith) }

  -- once the numbers below n were passed over, all that share their name with another are held
  pub all_held : (i : ℕ) (hs : List NumberedName) → i ≡ n → Holding name n i hs → HoldTheShared name n hs
  all_held i hs e w = record { each = w.each; every = λ k q l. w.every k q (omega arith) }

  -- a number that has no name, or its name alone, is passed over
  pub one_without : (i : ℕ) (hs : List NumberedName) → ((q : List ℕ) → name i ≡ Some q → IsItsAlone name n i)
      → Holding name n i hs → Holding name n (i + 1) hs
  one_without i hs alone w = record {
    each = w.each;
    every = λ k q l e. elim (below_or_at k i l) [
      | inl m ↦ w.every k q m e
      | inr m ↦ inr (subst (IsItsAlone name n) (sym m) (alone q (ap name (sym m) ∙ e)))
    ];
  }

  -- a number is held once it is added with its own name and that name's hash
  pub one_named : (i : ℕ) (hs : List NumberedName) (h : NumberedName) → i < n
      → h.number ≡ i → name i ≡ Some h.name.now → h.hash ≡ name_hash h.name.now
      → Holding name n i hs → Holding name n (i + 1) (hs ++ h ∷ [])
  one_named i hs h lt number own mixed w = record {
    each = All-push (HasItsName name n) hs h w.each
        (record { below = omega arith; own = ap name number ∙ own; mixed = mixed });
    every = λ k q l e. elim (below_or_at k i l) [
      | inl m ↦ elim (w.every k q m e) [
        | inl x ↦ inl (x.0, Contains-append_left hs (h ∷ []) x.0 x.1, x.2)
        | inr o ↦ inr o
      ]
      | inr m ↦ inl (h, Contains-push hs h, number ∙ sym m)
    ];
  }

module _ (name : ℕ → Option (List ℕ)) where
  -- what holds the shared names holds them when it is sorted, and in the order of names
  pub by_name : (n : ℕ) (hs hs' : List NumberedName)
      → HoldTheShared name n hs → IsPermutation hs hs' → IsSorted numbered_cmp hs' → AreInNameOrder name n hs'
  by_name n hs hs' w p up = record {
    are = record {
      each = All-permutation (HasItsName name n) hs hs' p w.each;
      every = λ k q l e. elim (w.every k q l e) [
        | inl x ↦ inl (x.0, Contains-permutation hs hs' x.0 p x.1, x.2)
        | inr o ↦ inr o
      ];
    };
    sorted = up;
  }

tail_same : (a b : ℕ) (xs ys : List ℕ) → a ∷ xs ≡ b ∷ ys → xs ≡ ys
tail_same a b xs ys e = cc

-- two that compare as equal have the same name
pub one_name : (x y : NumberedName) → numbered_cmp x y ≡ Equal → x.name.now ≡ y.name.now
one_name x y e = tail_same x.hash y.hash _ _ (exact_bytes (x.hash ∷ x.name.now) (y.hash ∷ y.name.now) e)

neither_less : (x y : List ℕ) → is_lt (slice_cmp nat_cmp x y) ≡ false → is_lt (slice_cmp nat_cmp y x) ≡ false
    → slice_cmp nat_cmp x y ≡ Equal
neither_less x y p q = pick (slice_cmp nat_cmp x y) refl
  where
    pick : (o : Ordering) → slice_cmp nat_cmp x y ≡ o → slice_cmp nat_cmp x y ≡ Equal
    pick Less e = absurd (let z : is_lt Less ≡ false = subst (λ o. is_lt o ≡ false) e p in cc)
    pick Equal e = e
    pick Greater e =
        let back : slice_cmp nat_cmp y x ≡ Less = nat_list_cmp_total.antisymm y x ∙ ap ordering_reverse e in
        absurd (let z : is_lt Less ≡ false = subst (λ o. is_lt o ≡ false) back q in cc)

-- what is between two with the same name, in the order of names, compares as equal to them
pub between : (name : ℕ → Option (List ℕ)) (n : ℕ) (hs : List NumberedName) → AreInNameOrder name n hs
    → (i j k : ℕ) (d : NumberedName) → i ≤ j → j ≤ k → k < length hs → (get_or hs i d).name.now ≡ (get_or hs k d).name.now
    → numbered_cmp (get_or hs j d) (get_or hs k d) ≡ Equal
between name n hs w i j k d l m h e =
    let o = ranks_by nat_list_cmp_total (λ (x : NumberedName). x.hash ∷ x.name.now) in
    let low = sorted_far (λ x y. is_lt (numbered_cmp x y)) o hs w.sorted i j d l (omega arith) in
    let high = sorted_far (λ x y. is_lt (numbered_cmp x y)) o hs w.sorted j k d m h in
    neither_less
    ((get_or hs j d).hash ∷ (get_or hs j d).name.now)
    ((get_or hs k d).hash ∷ (get_or hs k d).name.now)
    (subst (λ t. is_lt (slice_cmp nat_cmp ((get_or hs j d).hash ∷ (get_or hs j d).name.now) t) ≡ false) same low) high
  where
    hashes : (get_or hs i d).hash ≡ (get_or hs k d).hash
    hashes = (w.are.each i d (omega arith)).mixed ∙ ap name_hash e ∙ sym (w.are.each k d h).mixed

    same : (get_or hs i d).hash ∷ (get_or hs i d).name.now ≡ (get_or hs k d).hash ∷ (get_or hs k d).name.now
    same = ap (λ t. t ∷ (get_or hs i d).name.now) hashes ∙ ap (λ t. (get_or hs k d).hash ∷ t) e
