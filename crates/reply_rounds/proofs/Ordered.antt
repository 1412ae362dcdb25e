-- Sums by node: a list of them has one form, `one_form`. Two of them begin with the same node, as neither has one below the other's, and
-- continue so.
use Rattle.std.proofs.Common.{◌≡◌, ◌≢◌, ◌∙◌, sym, ap, ℕ, ◌<◌, ◌==◌, inl, inr, ℤ, pos, List, [], ◌∷◌, Bool, true, false, cond, refl, arith, eq-eqb}
use Rattle.std.specs.List.{AllByRecursion}
use Rattle.std.proofs.lemmas.Bool.{eqb-true, cases_order}
use Rattle.std.proofs.lemmas.Int.{ints}
use Rattle.reply_model.specs.declared.moves.Move.{Move}
use Rattle.reply_model.specs.Moves.{balance}
use Rattle.reply_rounds.specs.Sums.{AreAscending, AreSums}

elsewhere : (node other : ℕ) (a : ℤ) → node < other → cond (other == node) a (pos 0) ≡ pos 0
elsewhere node other a lt = go (other == node) refl
  where
    go : (b : Bool) → (other == node) ≡ b → cond b a (pos 0) ≡ pos 0
    go true e = let same = eqb-true other node e in absurd (omega arith)
    go false e = refl

-- a node below all others has no balance
none_above : (node : ℕ) (moves : List Move) → AllByRecursion (λ m. node < m.node) moves → balance node moves ≡ pos 0
none_above node [] all = refl
none_above node (m ∷ moves) all =
    let e = elsewhere node m.node m.amount all.0 in
    let f = none_above node moves all.1 in
    omega (arith, ints)

-- the balance of the first node is its amount
first_balance : (m : Move) (moves : List Move) → AllByRecursion (λ n. m.node < n.node) moves → balance m.node (m ∷ moves) ≡ m.amount
first_balance m moves all =
    let own : cond (m.node == m.node) m.amount (pos 0) ≡ m.amount = ap (λ b. cond b m.amount (pos 0)) (eq-eqb m.node m.node refl) in
    let rest = none_above m.node moves all in
    omega (arith, ints)

further : (low high : ℕ) (moves : List Move) → low < high → AllByRecursion (λ m. high < m.node) moves
    → AllByRecursion (λ m. low < m.node) moves
further low high [] lt all = tt
further low high (m ∷ moves) lt all = let a : high < m.node = all.0 in (omega arith, further low high moves lt all.1)

-- a node that is first in one list and below all of the other
not_lower : (x y : Move) (xs ys : List Move) → AreAscending (x ∷ xs) → AreAscending (y ∷ ys) → x.amount ≢ pos 0
    → balance x.node (x ∷ xs) ≡ balance x.node (y ∷ ys) → x.node < y.node → ⊥
not_lower x y xs ys a b some same lt =
    some (sym (first_balance x xs a.0) ∙ same ∙ none_above x.node (y ∷ ys) (lt, further x.node y.node ys lt b.0))

one_list : (xs ys : List Move) → AreAscending xs → AreAscending ys → AllByRecursion (λ m. m.amount ≢ pos 0) xs
    → AllByRecursion (λ m. m.amount ≢ pos 0) ys → ((node : ℕ) → balance node xs ≡ balance node ys) → xs ≡ ys
one_list [] [] a b some more same = refl
one_list [] (y ∷ ys) a b some more same = absurd (more.0 (sym (first_balance y ys b.0) ∙ sym (same y.node)))
one_list (x ∷ xs) [] a b some more same = absurd (some.0 (sym (first_balance x xs a.0) ∙ same x.node))
one_list (x ∷ xs) (y ∷ ys) a b some more same =
    let node : x.node ≡ y.node = elim (cases_order x.node y.node) [
      | inl e ↦ e
      | inr o ↦ elim o [
        | inl lt ↦ absurd (not_lower x y xs ys a b some.0 (same x.node) lt)
        | inr gt ↦ absurd (not_lower y x ys xs b a more.0 (sym (same y.node)) gt)
      ]
    ] in
    let amount : x.amount ≡ y.amount = sym (first_balance x xs a.0) ∙ same x.node ∙ ap (λ n. balance n (y ∷ ys)) node
    ∙ first_balance y ys b.0 in
    let rest : (n : ℕ) → balance n xs ≡ balance n ys = λ n. (
    let e = same n in
    let f : cond (x.node == n) x.amount (pos 0) ≡ cond (y.node == n) y.amount (pos 0) =
    ap (λ (k : ℕ). cond (k == n) x.amount (pos 0)) node ∙ ap (λ z. cond (y.node == n) z (pos 0)) amount in
    omega (arith, ints)) in
    let head : x ≡ y =
    ap (λ (n : ℕ). let m : Move = record { node = n; amount = x.amount } in m) node
    ∙ ap (λ (z : ℤ). let m : Move = record { node = y.node; amount = z } in m) amount in
    ap (λ m. m ∷ xs) head ∙ ap (λ ms. y ∷ ms) (one_list xs ys a.1 b.1 some.1 more.1 rest)

-- sums of the same moves are the same list
pub one_form : (moves xs ys : List Move) → AreSums moves xs → AreSums moves ys → xs ≡ ys
one_form moves xs ys a b = one_list xs ys a.ascending b.ascending a.none_zero b.none_zero (λ node. (a.each node ∙ sym (b.each node)))
