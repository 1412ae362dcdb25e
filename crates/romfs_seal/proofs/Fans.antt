-- Blocks and the digests over them, by numbers: of either algorithm.
use Rattle.std.proofs.Common.{◌≡◌, ℕ, zero, suc, ◌+◌, ◌*◌, ◌/◌, ◌%◌, ◌^◌, ◌<◌, ◌≤◌, arith, pow-suc, inl, inr}
use Rattle.std.proofs.lemmas.Bool.{cases_lt}
use Rattle.devices.specs.declared.algorithm.Algorithm.{Algorithm}
use Rattle.devices.specs.declared.algorithm.Algorithm.TheVariants.{Sha256, Sha512}
use Rattle.devices.specs.Tree.{HasLevels, digest_size, fan, blocks_above}

pub above_within : (a : Algorithm) (n i : ℕ) → i < n → i / fan a < blocks_above a n
above_within Sha256 n i below = omega arith
above_within Sha512 n i below = omega arith

pub above_fits : (a : Algorithm) (n : ℕ) → digest_size a * n ≤ 4096 * blocks_above a n
above_fits Sha256 n = omega arith
above_fits Sha512 n = omega arith

pub one_more : (a : Algorithm) (n : ℕ) → digest_size a * n + digest_size a ≡ digest_size a * suc n
one_more Sha256 n = omega arith
one_more Sha512 n = omega arith

pub none_yet : (a : Algorithm) → 0 ≡ digest_size a * 0
none_yet Sha256 = omega arith
none_yet Sha512 = omega arith

pub split_is : (a : Algorithm) (i : ℕ) → fan a * (i / fan a) + i % fan a ≡ i
split_is Sha256 i = omega arith
split_is Sha512 i = omega arith

pub rest_below : (a : Algorithm) (i : ℕ) → i % fan a < fan a
rest_below Sha256 i = omega arith
rest_below Sha512 i = omega arith

pub digest_fits : (a : Algorithm) (r : ℕ) → r < fan a → digest_size a + digest_size a * r ≤ 4096
digest_fits Sha256 r below = omega arith
digest_fits Sha512 r below = omega arith

pub digest_place : (a : Algorithm) (j r : ℕ) → 4096 * j + digest_size a * r ≡ digest_size a * (fan a * j + r)
digest_place Sha256 j r = omega arith
digest_place Sha512 j r = omega arith

pub none_above : (a : Algorithm) → blocks_above a 0 ≡ 0
none_above Sha256 = omega arith
none_above Sha512 = omega arith

pub one_level_less : (a : Algorithm) (n levels : ℕ) → n ≤ fan a ^ suc levels → blocks_above a n ≤ fan a ^ levels
one_level_less Sha256 n levels enough = (let e : 128 ^ suc levels ≡ 128 ^ levels * 128 = pow-suc 128 levels in omega arith)
one_level_less Sha512 n levels enough = (let e : 64 ^ suc levels ≡ 64 ^ levels * 64 = pow-suc 64 levels in omega arith)

one_level_more : (a : Algorithm) (n levels : ℕ) → blocks_above a n ≤ fan a ^ levels → n ≤ fan a ^ suc levels
one_level_more Sha256 n levels enough = (let e : 128 ^ suc levels ≡ 128 ^ levels * 128 = pow-suc 128 levels in omega arith)
one_level_more Sha512 n levels enough = (let e : 64 ^ suc levels ≡ 64 ^ levels * 64 = pow-suc 64 levels in omega arith)

pub one_block : (a : Algorithm) (n : ℕ) → n ≤ fan a ^ 0 → n ≤ 1
one_block Sha256 n enough = enough
one_block Sha512 n enough = enough

-- with no level above there is one block, or none
pub few_blocks : (a : Algorithm) (n levels : ℕ) → levels ≡ 0 → HasLevels a n levels → n ≤ 1
few_blocks a n zero none has = one_block a n (has.enough)
few_blocks a n (suc levels) none has = absurd (omega arith)

pub no_levels : (a : Algorithm) (n : ℕ) → n ≤ 1 → HasLevels a n 0
no_levels Sha256 n few = record { enough = few; least = λ k e. omega arith }
no_levels Sha512 n few = record { enough = few; least = λ k e. omega arith }

least_of : (a : Algorithm) (n levels : ℕ) → 1 < n → HasLevels a (blocks_above a n) levels → (k : ℕ) → n ≤ fan a ^ k → suc levels ≤ k
least_of a n levels many has zero e = (let one = one_block a n e in absurd (omega arith))
least_of a n levels many has (suc k) e = (let less = has.least k (one_level_less a n k e) in omega arith)

pub levels_more : (a : Algorithm) (n levels : ℕ) → 1 < n → HasLevels a (blocks_above a n) levels → HasLevels a n (suc levels)
levels_more a n levels many has = record {
  enough = one_level_more a n levels (has.enough);
  least = least_of a n levels many has;
}

pub one_count : (a : Algorithm) (n j k : ℕ) → HasLevels a n j → HasLevels a n k → j ≡ k
one_count a n j k p q =
    let left = p.least k (q.enough) in
    let right = q.least j (p.enough) in
    omega arith

pub digest_within : (a : Algorithm) (i n : ℕ) → i < n → digest_size a * i + digest_size a ≤ digest_size a * n
digest_within Sha256 i n below = omega arith
digest_within Sha512 i n below = omega arith

-- files have nine levels at most
pub nine_levels : (a : Algorithm) (n levels : ℕ) → n ≤ 2 ^ 51 → HasLevels a n levels → levels ≤ 9
nine_levels Sha256 n levels few has = has.least 9 (omega arith)
nine_levels Sha512 n levels few has = has.least 9 (omega arith)

-- over more than one block there is a level
pub many_blocks : (a : Algorithm) (n levels : ℕ) → HasLevels a n (suc levels) → 1 < n
many_blocks a n levels has =
    elim (cases_lt 1 n) [
      | inl many ↦ many
      | inr few ↦ (let none = has.least 0 ((no_levels a n (omega (arith, few))).enough) in absurd (omega arith))
    ]

pub small_digest : (a : Algorithm) → digest_size a ≤ 64
small_digest Sha256 = omega arith
small_digest Sha512 = omega arith
