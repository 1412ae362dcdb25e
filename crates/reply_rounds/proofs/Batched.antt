-- Jobs in batches, and pieces in the order of their numbers. `all_in` and `all_moved` are the main lemmas: pieces that each give what their
-- batch gives, together give what all jobs give. The first lemmas are about the numbers of batches.
use Rattle.std.proofs.Common.{lt_of_not-le, mul-le-mul_right, ◌≡◌, ℕ, zero, suc, ◌+◌, ◌-◌, ◌*◌, ◌/◌, ◌<◌, ◌≤◌, List, [], ◌∷◌, ◌++◌, length, take, drop, sym, ap, subst, ◌∙◌, arith, map}
use mathlib.Core.Logic.{dite}
use native.Mathlib.Decide.{dec_le}
use Rattle.std.specs.List.{All, flat_map, range_with_len}
use Rattle.std.proofs.lemmas.Grind.{flat_map-append}
use Rattle.std.proofs.lemmas.Int.{ints}
use Rattle.std.proofs.lemmas.List.{take-append-drop, drop-drop}
use Rattle.std.proofs.lemmas.List.Elements.{All-head, All-tail}
use Rattle.std.proofs.Math.ListN.{drop_of_length-le}
use Rattle.std.proofs.Math.Nat.{lt-div-mul-add, div-mul-le_self}
use Rattle.serve_loop.specs.declared.limits.TheConstants.{MAX_ROUND_MESSAGES}
use Rattle.reply_model.specs.declared.moves.Move.{Move}
use Rattle.reply_model.specs.Moves.{balance}
use Rattle.reply_model.specs.Balances.{weight}
use Rattle.reply_model.proofs.Sums.{balance_append, weight_append}

-- the batch of a number below their count begins within the jobs
pub begins_within : (jobs size number : ℕ) → 1 ≤ size → number < (jobs + size - 1) / size → number * size ≤ jobs
begins_within jobs size number some below =
    let d = div-mul-le_self (jobs + size - 1) size in
    let m = mul-le-mul_right size below in
    omega arith

-- all batches reach to the end of the jobs
pub reaches_end : (jobs size : ℕ) → 1 ≤ size → jobs ≤ (jobs + size - 1) / size * size
reaches_end jobs size some = let d : jobs + size - 1 < (jobs + size - 1) / size * size + size = lt-div-mul-add some in omega arith

-- jobs have no more batches than a round has messages, if they are no more than these
pub batches_few : (jobs size : ℕ) → 1 ≤ size → jobs ≤ MAX_ROUND_MESSAGES → (jobs + size - 1) / size ≤ MAX_ROUND_MESSAGES
batches_few jobs size some few = dite (dec_le ((jobs + size - 1) / size) MAX_ROUND_MESSAGES) (λ d. d) (λ d. let more : MAX_ROUND_MESSAGES
    + 1 ≤ (jobs + size - 1) / size =
    lt_of_not-le d in
    let m = mul-le-mul_right size more in let e = div-mul-le_self (jobs + size - 1) size in absurd (omega arith))

-- the jobs of the batch of a number
abbrev pub part : {X : Type 0} → ℕ → List X → ℕ → List X
part size jobs k = take size (drop (k * size) jobs)

-- what is left from a batch on is the batch, and what is left from the next
next_part : {X : Type 0} (size : ℕ) (jobs : List X) (k : ℕ) → drop (k * size) jobs ≡ part size jobs k ++ drop ((k + 1) * size) jobs
next_part size jobs k =
    let e : k * size + size ≡ (k + 1) * size = omega arith in
    sym (take-append-drop size (drop (k * size) jobs)) ∙ ap (λ ys. part size jobs k ++ ys) (drop-drop size (k * size) jobs
    ∙ ap (λ (n : ℕ). drop n jobs) e)

nothing_left : {X : Type 0} (size : ℕ) (jobs : List X) (k : ℕ) → length jobs ≤ (k + 0) * size → drop (k * size) jobs ≡ []
nothing_left size jobs k h = let e = ap (λ (n : ℕ). n * size) (let z : k + 0 ≡ k = omega arith in z) in drop_of_length-le jobs (omega arith)

-- the number of the first piece, and those of the rest
head_is : (x y : ℕ) (xs ys : List ℕ) → x ∷ xs ≡ y ∷ ys → x ≡ y
head_is x y xs ys e = cc

tail_is : (x y : ℕ) (xs ys : List ℕ) → x ∷ xs ≡ y ∷ ys → xs ≡ ys
tail_is x y xs ys e = cc

module _ {P X : Type 0} (number : P → ℕ) (size : ℕ) (jobs : List X) where
  -- if each piece is in a relation to its batch, and the relation is kept when lists are joined, all pieces are in it to all jobs
  pub all_in : {Y : Type 0} (Is : List X → List Y → Type 0) (none : Is [] [])
      (on : (xs ys : List X) (a b : List Y) → Is xs a → Is ys b → Is (xs ++ ys) (a ++ b)) (put : P → List Y) (l : List P) (k n : ℕ)
      → map number l ≡ range_with_len k n
      → All (λ p. Is (part size jobs (number p)) (put p)) l → length jobs ≤ (k + n) * size
      → Is (drop (k * size) jobs) (flat_map put l)
  all_in Is none on put [] k zero same each h = subst (λ xs. Is xs []) (sym (nothing_left size jobs k h)) none
  all_in Is none on put [] k (suc n) same each h = absurd (cc)
  all_in Is none on put (p ∷ l) k zero same each h = absurd (cc)
  all_in Is none on put (p ∷ l) k (suc n) same each h =
      let first = head_is (number p) k (map number l) (range_with_len (k + 1) n) same in
      let rest = tail_is (number p) k (map number l) (range_with_len (k + 1) n) same in
      let further = ap (λ (m : ℕ). m * size) (let z : k + suc n ≡ k + 1 + n = omega arith in z) in
      let own = subst (λ (m : ℕ). Is (part size jobs m) (put p)) first
      (All-head (λ p. Is (part size jobs (number p)) (put p)) p l each) in
      let others = all_in Is none on put l (k + 1) n rest (All-tail (λ p. Is (part size jobs (number p)) (put p)) p l each)
      (omega arith) in
      subst (λ xs. Is xs (flat_map put (p ∷ l))) (sym (next_part size jobs k))
      (on (part size jobs k) (drop ((k + 1) * size) jobs) (put p) (flat_map put l) own others)

  -- what they move is what all jobs move
  pub all_moved : (put : P → List Move) (told : X → List Move) (node : ℕ) (l : List P) (k n : ℕ) → map number l ≡ range_with_len k n
      → All (λ p. balance node (put p) ≡ balance node (flat_map told (part size jobs (number p)))) l → length jobs ≤ (k + n) * size
      → balance node (flat_map put l) ≡ balance node (flat_map told (drop (k * size) jobs))
  all_moved put told node [] k zero same each h = sym (ap (λ xs. balance node (flat_map told xs)) (nothing_left size jobs k h))
  all_moved put told node [] k (suc n) same each h = absurd (cc)
  all_moved put told node (p ∷ l) k zero same each h = absurd (cc)
  all_moved put told node (p ∷ l) k (suc n) same each h =
      let first = head_is (number p) k (map number l) (range_with_len (k + 1) n) same in
      let rest = tail_is (number p) k (map number l) (range_with_len (k + 1) n) same in
      let further = ap (λ (m : ℕ). m * size) (let z : k + suc n ≡ k + 1 + n = omega arith in z) in
      let Own : P → Type 0 = λ p. balance node (put p) ≡ balance node (flat_map told (part size jobs (number p))) in
      let own = All-head Own p l each ∙ ap (λ (m : ℕ). balance node (flat_map told (part size jobs m))) first in
      let others = all_moved put told node l (k + 1) n rest (All-tail Own p l each) (omega arith) in
      let here = balance_append node (put p) (flat_map put l) in
      let there = balance_append node (flat_map told (part size jobs k)) (flat_map told (drop ((k + 1) * size) jobs)) in
      let parts = ap (balance node) (ap (flat_map told) (next_part size jobs k)
      ∙ flat_map-append told (part size jobs k) (drop ((k + 1) * size) jobs)) in
      omega (arith, ints)

-- light pieces are light together
pub weight_all : {P : Type 0} (put : P → List Move) (limit : ℕ) (l : List P) → All (λ p. weight (put p) ≤ limit) l → weight (flat_map put l)
    ≤ limit * length l
weight_all put limit [] each = omega arith
weight_all put limit (p ∷ l) each =
    let first = All-head (λ p. weight (put p) ≤ limit) p l each in
    let rest = weight_all put limit l (All-tail (λ p. weight (put p) ≤ limit) p l each) in
    let e = weight_append (put p) (flat_map put l) in
    let m : limit * suc (length l) ≡ limit + limit * length l = omega arith in
    omega arith
