-- Balances, after one list of moves and another. The main lemma is `adds`: what the code writes at a node's index is what one move of it
-- does to all balances. `within_moved` says how far from 0 they are after it. `weight_within` to `one_more_move` are the steps of a loop
-- over moves.
use Rattle.std.proofs.Common.{◌≡◌, ◌∙◌, sym, ap, subst, ℕ, ◌+◌, ◌<◌, ◌≤◌, ◌^◌, ◌==◌, ℤ, pos, ◌+ℤ◌, unsigned_abs, List, [], ◌∷◌, ◌++◌, length, take, drop, ◌≢◌, ◌⊎◌, inl, inr, set, get_or, Bool, true, false, cond, refl, arith, eq-eqb, FitsSigned, to_z, of_z, ◌-◌}
use Rattle.std.specs.Int.{w128}
use Rattle.std.proofs.lemmas.Int.{ints, fits_signed_from_abs, to_z-of_z}
use Rattle.std.proofs.lemmas.Bool.{eqb-true}
use Rattle.std.proofs.lemmas.List.{get_or-set_same, get_or-set_other, length-set, take_more, take-append-drop}
use Rattle.reply_model.specs.Balances.{balance_at, weight, IsLight, IsMoved, AreWithin}
use Rattle.reply_model.specs.declared.moves.Move.{Move}
use Rattle.reply_model.specs.Moves.{balance}

abs_add : (a b : ℤ) → unsigned_abs (a +ℤ b) ≤ unsigned_abs a + unsigned_abs b
abs_add a b = omega (arith, ints)

-- what is given by some moves and then others
pub balance_append : (node : ℕ) (xs ys : List Move) → balance node (xs ++ ys) ≡ balance node xs +ℤ balance node ys
balance_append node [] ys = omega (arith, ints)
balance_append node (x ∷ xs) ys = let e = balance_append node xs ys in omega (arith, ints)

-- no move leaves all balances as they were
pub none_moved : (b : List ℤ) → IsMoved [] b b
none_moved b = record { same = refl; each = λ i h. omega (arith, ints) }

-- one list of moves and then another are both, one after the other
pub moved_on : (xs ys : List Move) (a b c : List ℤ) → IsMoved xs a b → IsMoved ys b c → IsMoved (xs ++ ys) a c
moved_on xs ys a b c m n = record {
  same = n.same ∙ m.same;
  each = λ i h. (let s = m.same in let e = m.each i h in let f = n.each i (omega arith) in let g = balance_append (i + 1) xs ys in
      omega (arith, ints));
}

weighed_one : (b : Bool) (x : ℤ) → unsigned_abs (cond b x (pos 0)) ≤ unsigned_abs x
weighed_one true x = omega arith
weighed_one false x = omega arith

weighed : (node : ℕ) (moves : List Move) → unsigned_abs (balance node moves) ≤ weight moves
weighed node [] = omega arith
weighed node (m ∷ moves) =
    let x = weighed_one (m.node == node) m.amount in
    let r = weighed node moves in
    let a = abs_add (cond (m.node == node) m.amount (pos 0)) (balance node moves) in
    omega arith

-- balances get further from 0 by no more than the moves' weight
pub within_moved : (limit : ℕ) (moves : List Move) (a b : List ℤ) → AreWithin limit a → IsMoved moves a b
    → AreWithin (limit + weight moves) b
within_moved limit moves a b w m = record {
  each = λ i h. (
      let s = m.same in
      let l : i < length a = omega arith in
      let x = w.each i l in
      let y = weighed (i + 1) moves in
      let z = abs_add (balance_at a i) (balance (i + 1) moves) in
      let e = ap unsigned_abs (m.each i l) in
      omega arith);
}

-- what is within a limit is within a higher one
pub within_less : (limit most : ℕ) (b : List ℤ) → limit ≤ most → AreWithin limit b → AreWithin most b
within_less limit most b l w = record { each = λ i h. (let x = w.each i h in omega arith) }

-- what is within a limit but for some moves' weight is within the limit once they are made
pub still_within : (limit most : ℕ) (moves : List Move) (a b : List ℤ) → AreWithin limit a → IsMoved moves a b → limit + weight moves ≤ most
    → AreWithin most b
still_within limit most moves a b w m h = within_less (limit + weight moves) most b h (within_moved limit moves a b w m)

-- what some moves weigh and then others
pub weight_append : (xs ys : List Move) → weight (xs ++ ys) ≡ weight xs + weight ys
weight_append [] ys = omega arith
weight_append (x ∷ xs) ys = let e = weight_append xs ys in omega arith

-- what is light, and what is light after it
pub light_on : (xs ys : List Move) (m n : ℕ) → IsLight xs m → IsLight ys n → IsLight (xs ++ ys) (m + n)
light_on xs ys m n l k = let w = weight_append xs ys in omega arith

-- a move that moves nothing
abbrev pub nothing : Move
nothing = record { node = 0; amount = pos 0 }

-- the moves before an index and the one there weigh no more than all
pub weight_within : (xs : List Move) (i : ℕ) → i < length xs → weight (take i xs) + unsigned_abs (get_or xs i nothing).amount ≤ weight xs
weight_within xs i there =
    let e = ap weight (take_more xs i nothing there) in
    let f = weight_append (take i xs) (get_or xs i nothing ∷ []) in
    let g = weight_append (take (i + 1) xs) (drop (i + 1) xs) in
    let h = ap weight (take-append-drop (i + 1) xs) in
    omega arith

-- if the move at an index is made after those before it, those before the next one are
pub one_more_move : (xs : List Move) (i : ℕ) (a b c : List ℤ) → i < length xs → IsMoved (take i xs) a b
    → IsMoved (get_or xs i nothing ∷ []) b c
    → IsMoved (take (i + 1) xs) a c
one_more_move xs i a b c there m n =
    subst (λ (ms : List Move). IsMoved ms a c) (sym (take_more xs i nothing there))
    (moved_on (take i xs) (get_or xs i nothing ∷ []) a b c m n)

-- an amount as 128 bits hold it
abbrev pub held : ℤ → ℤ
held z = to_z w128 (of_z w128 z)

-- one that is not far from 0 is held as it is
pub as_held : (z : ℤ) → unsigned_abs z < 2 ^ 127 → held z ≡ z
as_held z h = to_z-of_z w128 z (fits_signed_from_abs w128 z h)

-- a move that is added at its node's place
module _ (b : List ℤ) (place : ℕ) (amount : ℤ) (l : place < length b) where
  abbrev added : List ℤ
  added = set b place (get_or b place (pos 0) +ℤ amount)

  at_place : (i : ℕ) (t : Bool) → (place + 1 == i + 1) ≡ t → balance_at added i ≡ balance_at b i +ℤ (cond t amount (pos 0) +ℤ pos 0)
  at_place i true e =
      let p : place ≡ i = (let q = eqb-true (place + 1) (i + 1) e in omega arith) in
      let g = get_or-set_same b place (get_or b place (pos 0) +ℤ amount) (pos 0) l in
      subst (λ (j : ℕ). balance_at added j ≡ balance_at b j +ℤ (amount +ℤ pos 0)) p
      (g ∙ (let z : get_or b place (pos 0) +ℤ amount ≡ get_or b place (pos 0) +ℤ (amount +ℤ pos 0) = omega
      (arith, ints) in z))
  at_place i false e =
      let n : i ≢ place = λ q. (let r = eq-eqb (place + 1) (i + 1) (let s : place + 1 ≡ i + 1 = omega arith in s) in cc) in
      get_or-set_other b place i (get_or b place (pos 0) +ℤ amount) (pos 0) n
      ∙ (let z : get_or b i (pos 0) ≡ get_or b i (pos 0) +ℤ (pos 0 +ℤ pos 0) = omega (arith, ints) in z)

  -- a move of the node at a place adds its amount there
  pub one_moved : IsMoved (record { node = place + 1; amount = amount } ∷ []) b added
  one_moved = record { same = length-set b place _; each = λ i h. at_place i (place + 1 == i + 1) refl }

-- a move of a node that has no balance
pub none_there : (b : List ℤ) (node : ℕ) (amount : ℤ) → (node ≡ 0) ⊎ (length b < node)
    → IsMoved (record { node = node; amount = amount } ∷ []) b b
none_there b node amount o = record { same = refl; each = λ i h. elsewhere i h (node == i + 1) refl }
  where
    elsewhere : (i : ℕ) → i < length b → (t : Bool) → (node == i + 1) ≡ t
        → balance_at b i ≡ balance_at b i +ℤ (cond t amount (pos 0) +ℤ pos 0)
    elsewhere i h true e = let p = eqb-true node (i + 1) e in absurd (elim o [ inl z ↦ omega arith | inr z ↦ omega arith ])
    elsewhere i h false e = omega (arith, ints)

-- the sum of a balance and an amount that are not far from 0, as 128 bits hold them
module _ (b : List ℤ) (node : ℕ) (amount : ℤ) (w : AreWithin (2 ^ 125) b) (s : unsigned_abs amount ≤ 2 ^ 125) (l : node - 1 < length b)
  where
    abbrev old : ℤ
    old = get_or b (node - 1) (pos 0)

    parts : held old +ℤ held amount ≡ old +ℤ amount
    parts =
        let x = w.each (node - 1) l in
        ap (λ z. z +ℤ held amount) (as_held old (omega arith)) ∙ ap (λ z. old +ℤ z) (as_held amount (omega arith))

    small_sum : unsigned_abs (old +ℤ amount) < 2 ^ 127
    small_sum = let x = w.each (node - 1) l in let y = abs_add old amount in omega arith

    -- the sum of a balance and an amount fits in 128 bits
    pub sum_fits : FitsSigned w128 (held old +ℤ held amount)
    sum_fits = subst (λ z. FitsSigned w128 z) (sym parts) (fits_signed_from_abs w128 (old +ℤ amount) small_sum)

    -- the sum as 128 bits hold it, put at the node's place, is what the move does
    pub adds : (node ≡ 0 → ⊥) → IsMoved (record { node = node; amount = amount } ∷ []) b (set b (node - 1) (held (held old +ℤ held amount)))
    adds n =
        let e : held (held old +ℤ held amount) ≡ old +ℤ amount = ap held parts ∙ as_held (old +ℤ amount) small_sum in
        let k : node - 1 + 1 ≡ node = omega (arith, n) in
        subst (λ (z : ℤ). IsMoved (record { node = node; amount = amount } ∷ []) b (set b (node - 1) z)) (sym e)
        (subst (λ (i : ℕ). IsMoved (record { node = i; amount = amount } ∷ []) b (set b (node - 1) (old +ℤ amount))) k
        (one_moved b (node - 1) amount l))
