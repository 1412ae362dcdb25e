-- If tables are in order: the words of lists (firsts_long, first_small) and of names and values
-- (edges_long, edge_inside, edge_rises) lie in the bytes, and lead to places inside.
use Rattle.std.proofs.Common.{◌≡◌, ℕ, zero, suc, ◌+◌, ◌-◌, ◌*◌, ◌<◌, ◌≤◌, List, length, arith, refl}
use Rattle.std.specs.Prelude.{true, nat_le, nat_lt}
use Rattle.std.proofs.lemmas.Bool.Decides.{nat_tests}
use Rattle.romfs_format.specs.Below.{holds_below}
use Rattle.romfs_format.proofs.Below.{at_below}
use Rattle.romfs_format.specs.Part.{list_count, attribute_count, first_of, edge, list_of, numbered, AreTables, AreLists}
use Rattle.romfs_format.specs.Extended.{is_list}

-- what does not fall from one number to the next does not fall at all
climbs : (f : ℕ → ℕ) (n : ℕ) → ((j : ℕ) → j < n → f j ≤ f (j + 1)) → (i d : ℕ) → i + d ≤ n → f i ≤ f (d + i)
climbs f n h i zero l = (let e : zero + i ≡ i = omega arith in rw e (omega arith))
climbs f n h i (suc d) l =
    let a = climbs f n h i d (omega arith) in
    let b : f (d + i) ≤ f (d + i + 1) = h (d + i) (omega arith) in
    let e : suc d + i ≡ d + i + 1 = omega arith in
    rw e (omega arith)

climbs_to : (f : ℕ → ℕ) (n : ℕ) → ((j : ℕ) → j < n → f j ≤ f (j + 1)) → (i : ℕ) → i ≤ n → f i ≤ f n
climbs_to f n h i l =
    let c = climbs f n h i (n - i) (omega arith) in
    let e : (n - i) + i ≡ n = omega arith in
    rw e at c

module _ (y : List ℕ) (t : AreTables y) where
  -- the word of a list lies in the bytes
  pub firsts_long : (j : ℕ) → j ≤ list_count y → 4 * (j + 1) + 4 ≤ length y
  firsts_long j l = let f = t.firsts_fit in omega arith

  -- the word of a name or value does
  pub edges_long : (k : ℕ) → k ≤ 2 * attribute_count y → 4 * (list_count y + 2 + k) + 4 ≤ length y
  edges_long k l = let f = t.edges_fit in omega arith

  -- each list begins before the next
  pub first_rises : (j : ℕ) → j < list_count y → first_of y j < first_of y (j + 1)
  first_rises j l =
      let e = at_below (list_count y) (λ j. nat_lt (first_of y j) (first_of y (j + 1))) j l t.firsts_rise in
      grind (arith, nat_tests)

  -- no list begins after all attributes
  pub first_small : (j : ℕ) → j ≤ list_count y → first_of y j ≤ attribute_count y
  first_small j l = climbs_to (first_of y) (list_count y) (λ i m. let r = first_rises i m in omega arith) j l

  -- no name or value begins before the one before it
  pub edge_rises : (k : ℕ) → k < 2 * attribute_count y → edge y k ≤ edge y (k + 1)
  edge_rises k l =
      let e = at_below (2 * attribute_count y) (λ k. nat_le (edge y k) (edge y (k + 1))) k l t.edges_rise in
      grind (arith, nat_tests)

  -- and none begins outside
  pub edge_inside : (k : ℕ) → k ≤ 2 * attribute_count y → edge y k ≤ length y
  edge_inside k l =
      let c = climbs_to (edge y) (2 * attribute_count y) edge_rises k l in
      let i = t.inside in
      omega arith

-- each list up to the last is one that a file may have
pub numbered_right : (y : List ℕ) → AreLists y → (number : ℕ) → number ≤ list_count y → is_list (numbered y number) ≡ true
numbered_right y are zero l = refl
numbered_right y are (suc j) l = at_below (list_count y) (λ j. is_list (list_of y j)) j (omega arith) are.each
