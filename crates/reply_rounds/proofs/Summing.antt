-- Moves summed from the front on, if their nodes do not fall. `none_summed` to `all_summed` are
-- the loop: a move is added to its node's sum or begins a higher one. The last lemma,
-- `sums_permuted`, lets moves be sorted before.
use Rattle.std.proofs.Common.{◌≡◌, ◌≢◌, ◌∙◌, sym, ap, subst, ℕ, ◌+◌, ◌<◌, ◌≤◌, ◌^◌, ◌==◌, inl, inr, ℤ, pos, negsuc, neg_ℤ, ◌+ℤ◌, unsigned_abs, List, [], ◌∷◌, ◌++◌, length, get_or, take, Bool, true, false, cond, refl, arith}
use Rattle.std.specs.List.{AllByRecursion}
use Rattle.std.specs.List.Sorted.{IsPermutation}
use Rattle.std.specs.Prelude.{sum_by}
use Rattle.std.proofs.lemmas.Int.{ints}
use Rattle.std.proofs.lemmas.List.{take_more}
use Rattle.std.proofs.lemmas.List.Recursion.{is_sum_by}
use Rattle.std.proofs.lemmas.List.Sums.{sum_by-cons}
use Rattle.std.proofs.lemmas.List.Sorted.{sum_by-IsPermutation}
use Rattle.reply_model.specs.declared.moves.Move.{Move}
use Rattle.reply_model.specs.Moves.{balance}
use Rattle.reply_model.specs.Balances.{weight}
use Rattle.reply_model.proofs.Sums.{as_held, balance_append, held, nothing, weight_append, weight_within}
use Rattle.reply_rounds.specs.Sums.{AreAscending, AreSums, PutsSum}

weight_sum : (xs : List Move) → weight xs ≡ sum_by (λ (m : Move). unsigned_abs m.amount) xs
weight_sum xs = is_sum_by weight (λ (m : Move). unsigned_abs m.amount) refl (λ x xs. refl) xs

-- moves in another order weigh as much
pub weight_permuted : (xs ys : List Move) → IsPermutation xs ys → weight ys ≡ weight xs
weight_permuted xs ys p = weight_sum ys ∙ sum_by-IsPermutation (λ (m : Move). unsigned_abs m.amount) xs ys p ∙ sym (weight_sum xs)

all_push : (P : Move → Type 0) (xs : List Move) (b : Move) → AllByRecursion P xs → P b → AllByRecursion P (xs ++ b ∷ [])
all_push P [] b all last = (last, tt)
all_push P (x ∷ xs) b all last = (all.0, all_push P xs b all.1 last)

all_front : (P : Move → Type 0) (xs : List Move) (b : Move) → AllByRecursion P (xs ++ b ∷ []) → AllByRecursion P xs
all_front P [] b all = tt
all_front P (x ∷ xs) b all = (all.0, all_front P xs b all.1)

all_last : (P : Move → Type 0) (xs : List Move) (b : Move) → AllByRecursion P (xs ++ b ∷ []) → P b
all_last P [] b all = all.0
all_last P (x ∷ xs) b all = all_last P xs b all.1

ascending_front : (xs : List Move) (a : Move) → AreAscending (xs ++ a ∷ []) → AreAscending xs
ascending_front [] a h = tt
ascending_front (x ∷ xs) a h = (all_front (λ n. x.node < n.node) xs a h.0, ascending_front xs a h.1)

-- instead of the last one there may be a higher one
ascending_higher : (xs : List Move) (a b : Move) → a.node ≤ b.node → AreAscending (xs ++ a ∷ []) → AreAscending (xs ++ b ∷ [])
ascending_higher [] a b le h = (tt, tt)
ascending_higher (x ∷ xs) a b le h =
    let last : x.node < a.node = all_last (λ n. x.node < n.node) xs a h.0 in
    let higher : x.node < b.node = omega arith in
    (all_push (λ n. x.node < n.node) xs b (all_front (λ n. x.node < n.node) xs a h.0) higher, ascending_higher xs a b le h.1)

-- after the last one there may be a higher one
ascending_on : (xs : List Move) (a b : Move) → a.node < b.node → AreAscending (xs ++ a ∷ []) → AreAscending ((xs ++ a ∷ []) ++ b ∷ [])
ascending_on [] a b lt h = ((lt, tt), (tt, tt))
ascending_on (x ∷ xs) a b lt h =
    let last : x.node < a.node = all_last (λ n. x.node < n.node) xs a h.0 in
    let higher : x.node < b.node = omega arith in
    (all_push (λ n. x.node < n.node) (xs ++ a ∷ []) b h.0 higher, ascending_on xs a b lt h.1)

-- these moves are summed, and the sum of the last node is not yet put
pub record AreSummed (done sums : List Move) (sum : Move) : Type 0 where
  pub each : (node : ℕ) → balance node (sums ++ sum ∷ []) ≡ balance node done
  pub ascending : AreAscending (sums ++ sum ∷ [])
  pub none_zero : AllByRecursion (λ m. m.amount ≢ pos 0) sums
  pub light : weight sums + unsigned_abs sum.amount ≤ weight done

none_of : (b : Bool) (a : ℤ) → a ≡ pos 0 → cond b a (pos 0) ≡ pos 0
none_of true a is = is
none_of false a is = refl

-- if no move came yet, nothing is put and the sum under way is 0
pub none_summed : (sum : Move) → sum.amount ≡ pos 0 → AreSummed [] [] sum
none_summed sum zero = record {
  each = λ node. (let e = none_of (sum.node == node) sum.amount zero in omega (arith, ints));
  ascending = (tt, tt);
  none_zero = tt;
  light = (let e = ap unsigned_abs zero in omega arith);
}

added : (b : Bool) (x y z : ℤ) → z ≡ x +ℤ y → cond b z (pos 0) ≡ cond b x (pos 0) +ℤ cond b y (pos 0)
added true x y z is = is
added false x y z is = omega (arith, ints)

-- a move of the last node is added to it
pub one_added : (done sums : List Move) (sum m next : Move) → AreSummed done sums sum → m.node ≡ sum.node → next.node ≡ sum.node
    → next.amount ≡ sum.amount +ℤ m.amount → AreSummed (done ++ m ∷ []) sums next
one_added done sums sum m next so_far same kept is = record {
  each = λ node. (
      let e = so_far.each node in
      let f = balance_append node done (m ∷ []) in
      let g = balance_append node sums (sum ∷ []) in
      let h = balance_append node sums (next ∷ []) in
      let i = added (sum.node == node) sum.amount m.amount next.amount is in
      let j : cond (m.node == node) m.amount (pos 0) ≡ cond (sum.node == node) m.amount (pos 0) =
      ap (λ (n : ℕ). cond (n == node) m.amount (pos 0)) same in
      let k : cond (next.node == node) next.amount (pos 0) ≡ cond (sum.node == node) next.amount (pos 0) = ap
      (λ (n : ℕ). cond (n == node) next.amount (pos 0)) kept in
      omega (arith, ints));
  ascending = ascending_higher sums sum next (omega arith) so_far.ascending;
  none_zero = so_far.none_zero;
  light = (
      let l = weight_append done (m ∷ []) in
      let s = so_far.light in
      let a : unsigned_abs next.amount ≤ unsigned_abs sum.amount + unsigned_abs m.amount = omega (arith, ints) in
      omega arith);
}

-- amounts that 128 bits hold together are held as they are
pub fits_both : (a b : ℤ) → unsigned_abs a + unsigned_abs b < 2 ^ 127 → unsigned_abs (held a) + unsigned_abs (held b) < 2 ^ 127
fits_both a b h = let e = ap unsigned_abs (as_held a (omega arith)) in let f = ap unsigned_abs (as_held b (omega arith)) in omega arith

-- the move at an index is added
pub move_added : (xs sums : List Move) (i : ℕ) (sum : Move) (total : ℤ) → i < length xs → weight xs < 2 ^ 127
    → AreSummed (take i xs) sums sum → (get_or xs i nothing).node ≡ sum.node → total ≡ held sum.amount +ℤ held (get_or xs i nothing).amount
    → AreSummed (take (i + 1) xs) sums (record { node = sum.node; amount = held total })
move_added xs sums i sum total there light so_far same is =
    let m = get_or xs i nothing in
    let w = weight_within xs i there in
    let s = so_far.light in
    let e : total ≡ sum.amount +ℤ m.amount = is ∙ ap (λ z. z +ℤ held m.amount) (as_held sum.amount (omega arith))
    ∙ ap (λ z. sum.amount +ℤ z) (as_held m.amount (omega arith)) in
    let a : unsigned_abs (sum.amount +ℤ m.amount) ≤ unsigned_abs sum.amount + unsigned_abs m.amount = omega (arith, ints) in
    let b = ap unsigned_abs e in
    let h : held total ≡ total = as_held total (omega arith) in
    subst (λ ms. AreSummed ms sums (record { node = sum.node; amount = held total })) (sym (take_more xs i nothing there))
    (one_added (take i xs) sums sum m (record { node = sum.node; amount = held total }) so_far same refl (h ∙ e))

-- the sum of the last node is put, and a higher node begins
pub next_begun : (done sums put : List Move) (sum next : Move) → AreSummed done sums sum → PutsSum sums put sum → sum.node < next.node
    → next.amount ≡ pos 0 → AreSummed done put next
next_begun done sums put sum next so_far told higher zero = elim told [ inl t ↦ dropped t.0 t.1 | inr t ↦ kept t.0 t.1 ]
  where
    none : unsigned_abs next.amount ≡ 0
    none = let e = ap unsigned_abs zero in omega arith

    dropped : sum.amount ≡ pos 0 → put ≡ sums → AreSummed done put next
    dropped is same = subst (λ xs. AreSummed done xs next) (sym same) (record {
      each = λ node. (
          let e = so_far.each node in
          let g = balance_append node sums (sum ∷ []) in
          let h = balance_append node sums (next ∷ []) in
          let i = none_of (sum.node == node) sum.amount is in
          let j = none_of (next.node == node) next.amount zero in
          omega (arith, ints));
      ascending = ascending_higher sums sum next (omega arith) so_far.ascending;
      none_zero = so_far.none_zero;
      light = (let s = so_far.light in omega (arith, none));
    })

    kept : sum.amount ≢ pos 0 → put ≡ sums ++ sum ∷ [] → AreSummed done put next
    kept some same = subst (λ xs. AreSummed done xs next) (sym same) (record {
      each = λ node. (
          let e = so_far.each node in
          let h = balance_append node (sums ++ sum ∷ []) (next ∷ []) in
          let j = none_of (next.node == node) next.amount zero in
          omega (arith, ints));
      ascending = ascending_on sums sum next higher so_far.ascending;
      none_zero = all_push (λ m. m.amount ≢ pos 0) sums sum so_far.none_zero some;
      light = (let s = so_far.light in omega (arith, none, weight_append sums (sum ∷ [])));
    })

-- the last sum is put
pub all_summed : (done sums put : List Move) (sum : Move) → AreSummed done sums sum → PutsSum sums put sum → AreSums done put
all_summed done sums put sum so_far told = elim told [ inl t ↦ dropped t.0 t.1 | inr t ↦ kept t.0 t.1 ]
  where
    dropped : sum.amount ≡ pos 0 → put ≡ sums → AreSums done put
    dropped none same = subst (λ xs. AreSums done xs) (sym same) (record {
      ascending = ascending_front sums sum so_far.ascending;
      each = λ node. (
          let e = so_far.each node in
          let g = balance_append node sums (sum ∷ []) in
          let i = none_of (sum.node == node) sum.amount none in
          omega (arith, ints));
      none_zero = so_far.none_zero;
    })

    kept : sum.amount ≢ pos 0 → put ≡ sums ++ sum ∷ [] → AreSums done put
    kept some same = subst (λ xs. AreSums done xs) (sym same) (record {
      ascending = so_far.ascending;
      each = so_far.each;
      none_zero = all_push (λ m. m.amount ≢ pos 0) sums sum so_far.none_zero some;
    })

-- the sums weigh no more than what they are sums of
pub sums_light : (done sums put : List Move) (sum : Move) → AreSummed done sums sum → PutsSum sums put sum → weight put ≤ weight done
sums_light done sums put sum so_far told = let s = so_far.light in elim told [
  | inl t ↦ (let e = ap weight t.1 in omega arith)
  | inr t ↦ (let e = ap weight t.1 in let f = weight_append sums (sum ∷ []) in omega arith)
]

-- what an amount gives, and what it takes
abbrev gain : ℤ → ℕ
gain (pos n) = n
gain (negsuc n) = 0

abbrev loss : ℤ → ℕ
loss (pos n) = 0
loss (negsuc n) = n + 1

gain_less_loss : (a b : ℤ) (g l : ℕ) → b ≡ pos g +ℤ neg_ℤ (pos l) → a +ℤ b ≡ pos (gain a + g) +ℤ neg_ℤ (pos (loss a + l))
gain_less_loss (pos n) b g l is = omega (arith, ints)
gain_less_loss (negsuc n) b g l is = omega (arith, ints)

-- what is given of a node in all, and what is taken
abbrev gains : ℕ → List Move → ℕ
gains node moves = sum_by (λ (m : Move). gain (cond (m.node == node) m.amount (pos 0))) moves

abbrev losses : ℕ → List Move → ℕ
losses node moves = sum_by (λ (m : Move). loss (cond (m.node == node) m.amount (pos 0))) moves

parts : (node : ℕ) (moves : List Move) → balance node moves ≡ pos (gains node moves) +ℤ neg_ℤ (pos (losses node moves))
parts node [] = omega (arith, ints)
parts node (m ∷ moves) =
    let one = gain_less_loss (cond (m.node == node) m.amount (pos 0)) (balance node moves) (gains node moves) (losses node moves)
    (parts node moves) in
    let g = sum_by-cons (λ (m : Move). gain (cond (m.node == node) m.amount (pos 0))) m moves in
    let l = sum_by-cons (λ (m : Move). loss (cond (m.node == node) m.amount (pos 0))) m moves in
    one ∙ sym (ap (λ n. pos n +ℤ neg_ℤ (pos (loss (cond (m.node == node) m.amount (pos 0)) + losses node moves))) g)
    ∙ sym (ap (λ n. pos (gains node (m ∷ moves)) +ℤ neg_ℤ (pos n)) l)

-- moves in another order have the same balances
balance_permuted : (node : ℕ) (xs ys : List Move) → IsPermutation xs ys → balance node ys ≡ balance node xs
balance_permuted node xs ys p =
    let g = sum_by-IsPermutation (λ (m : Move). gain (cond (m.node == node) m.amount (pos 0))) xs ys p in
    let l = sum_by-IsPermutation (λ (m : Move). loss (cond (m.node == node) m.amount (pos 0))) xs ys p in
    let e = parts node xs in
    let f = parts node ys in
    omega (arith, ints)

-- the sums of moves are those of the same moves in any order
pub sums_permuted : (xs ys sums : List Move) → IsPermutation xs ys → AreSums ys sums → AreSums xs sums
sums_permuted xs ys sums p are = record {
  ascending = are.ascending;
  each = λ node. (are.each node ∙ balance_permuted node xs ys p);
  none_zero = are.none_zero;
}
