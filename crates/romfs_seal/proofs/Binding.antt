-- The root hash binds: what it vouches for is the block of the bytes that it belongs to, or a twin was met on the way (bound_or_forged);
-- bytes with the same root hash are the same, or have twins (one_root). Of whole bytes it vouches for each block (vouches).
use Rattle.std.proofs.Common.{◌≡◌, ◌≢◌, ◌∙◌, sym, ap, ℕ, zero, suc, ◌+◌, ◌*◌, ◌/◌, ◌%◌, ◌^◌, ◌<◌, ◌≤◌, List, [], ◌∷◌, get_or, refl, arith, inl, inr, ◌⊎◌, ext_get_or}
use Rattle.std.proofs.lemmas.Bool.{cases_eq, cases_lt}
use Rattle.devices.specs.declared.algorithm.Algorithm.{Algorithm}
use Rattle.devices.specs.Tree.{Hash, IsDigest, AreBlocks, fan, block, digest_at, blocks_above, above, root}
use Rattle.devices.specs.Vouched.{Vouches}
use Rattle.romfs_seal.specs.Twins.{AreTwins, IsForged, HaveTwins}
use Rattle.romfs_seal.proofs.Fans.{above_within, one_block, one_level_less, split_is, rest_below}
use Rattle.romfs_seal.proofs.Levels.{digest_at-above, blocks-above, block-is, block-only, digest_at-block, index-block}

-- a list that is not another
pub list_cases : (xs ys : List ℕ) → (xs ≡ ys) ⊎ (xs ≢ ys)
list_cases [] [] = inl refl
list_cases [] (y ∷ ys) = inr (λ e. cc)
list_cases (x ∷ xs) [] = inr (λ e. cc)
list_cases (x ∷ xs) (y ∷ ys) =
    elim (cases_eq x y) [
      | inr not ↦ inr (λ e. not (cc))
      | inl same ↦ elim (list_cases xs ys) [ inl rest ↦ inl (cc) | inr not ↦ inr (λ e. not (cc)) ]
    ]

-- the digest of a block is in the level above
pub digest_is : (a : Algorithm) (h : Hash) (sized : (m : List ℕ) → IsDigest a (h m)) (xs : List ℕ) (n i : ℕ) → i < n
    → digest_at a (block (above a h xs n) (i / fan a)) (i % fan a) ≡ h (block xs i)
digest_is a h sized xs n i below =
    digest_at-block a (above a h xs n) (i / fan a) (i % fan a) (rest_below a i)
    ∙ ap (λ k. digest_at a (above a h xs n) k) (split_is a i) ∙ digest_at-above a h sized xs n i below

pub bound_or_forged : (a : Algorithm) (h : Hash) (sized : (m : List ℕ) → IsDigest a (h m))
    → (levels : ℕ) (xs : List ℕ) (n : ℕ) (top : List ℕ) (i : ℕ) (b : List ℕ)
    → AreBlocks xs n → i < n → n ≤ fan a ^ levels → top ≡ root a h levels xs n → (v : Vouches a h levels top i b)
    → (b ≡ block xs i) ⊎ IsForged a h levels xs n top i b v
unfolding Vouches root IsForged
bound_or_forged a h sized zero xs n top i b blocks below enough is v =
    let only : block xs i ≡ xs = block-only xs n i blocks below (one_block a n enough) in
    elim (list_cases b xs) [
      | inl same ↦ inl (same ∙ sym only)
      | inr other ↦ inr (record { same = v ∙ is; other = other })
    ]
bound_or_forged a h sized (suc levels) xs n top i b blocks below enough is v =
    let up = bound_or_forged a h sized levels (above a h xs n) (blocks_above a n) top (i / fan a) (v.0) (blocks-above a h sized xs n)
    (above_within a n i below) (one_level_less a n levels enough) is (v.2) in
    elim up [
      | inr forged ↦ inr (inr forged)
      | inl right ↦
          let e : h b ≡ h (block xs i) = v.3 ∙ ap (λ u. digest_at a u (i % fan a)) right ∙ digest_is a h sized xs n i below in
          elim (list_cases b (block xs i)) [
            | inl same ↦ inl same
            | inr other ↦ inr (inl (record { same = e; other = other }))
          ]
    ]

-- of what is whole
pub vouches : (a : Algorithm) (h : Hash) (sized : (m : List ℕ) → IsDigest a (h m)) (levels : ℕ) (xs : List ℕ) (n i : ℕ)
    → AreBlocks xs n → i < n → n ≤ fan a ^ levels → Vouches a h levels (root a h levels xs n) i (block xs i)
unfolding Vouches root
vouches a h sized zero xs n i blocks below enough = ap h (block-only xs n i blocks below (one_block a n enough))
vouches a h sized (suc levels) xs n i blocks below enough =
    let up = above a h xs n in
    let whole : AreBlocks up (blocks_above a n) = blocks-above a h sized xs n in
    let upper : i / fan a < blocks_above a n = above_within a n i below in (
      block up (i / fan a),
      block-is up (blocks_above a n) (i / fan a) whole upper,
      vouches a h sized levels up (blocks_above a n) (i / fan a) whole upper (one_level_less a n levels enough),
      sym (digest_is a h sized xs n i below),
    )

-- ---- two lists with one root hash

-- the first n blocks are the same, or two of them are twins
same_or_twins : (h : Hash) (xs ys : List ℕ) (n : ℕ) → ((i : ℕ) → i < n → h (block ys i) ≡ h (block xs i))
    → ((i : ℕ) → i < n → block ys i ≡ block xs i) ⊎ ((i : ℕ) × (i < n) × AreTwins h (block xs i) (block ys i))
same_or_twins h xs ys zero digests = inl (λ i below. absurd (omega arith))
same_or_twins h xs ys (suc n) digests =
    elim (same_or_twins h xs ys n (λ i below. digests i (omega arith))) [
      | inr twins ↦ inr (twins.0, omega (arith, twins.1), twins.2)
      | inl before ↦
          elim (list_cases (block ys n) (block xs n)) [
            | inr other ↦ inr (n, omega arith, record { same = digests n (omega arith); other = other })
            | inl last ↦
                inl (λ i below.
                elim (cases_lt i n) [
                  | inl less ↦ before i less
                  | inr not_less ↦
                      let e : i ≡ n = omega arith in
                      ap (λ k. block ys k) e ∙ last ∙ ap (λ k. block xs k) (sym e)
                ])
          ]
    ]

blocks_same : (xs ys : List ℕ) (n : ℕ) → AreBlocks xs n → AreBlocks ys n → ((i : ℕ) → i < n → block ys i ≡ block xs i) → ys ≡ xs
blocks_same xs ys n p q same =
    let x_whole = p.whole in
    let y_whole = q.whole in
    ext_get_or 0 ys xs (omega arith)
    (λ k below.
    let within : k / 4096 < n = omega arith in
    let split : 4096 * (k / 4096) + k % 4096 ≡ k = omega arith in
    ap (λ i. get_or ys i 0) (sym split) ∙ sym (index-block ys (k / 4096) (k % 4096) (omega arith))
    ∙ ap (λ l. get_or l (k % 4096) 0) (same (k / 4096) within)
    ∙ index-block xs (k / 4096) (k % 4096) (omega arith) ∙ ap (λ i. get_or xs i 0) split)

pub one_root : (a : Algorithm) (h : Hash) (sized : (m : List ℕ) → IsDigest a (h m)) (levels : ℕ) (xs ys : List ℕ) (n : ℕ)
    → AreBlocks xs n → AreBlocks ys n → root a h levels ys n ≡ root a h levels xs n → (ys ≡ xs) ⊎ HaveTwins a h levels xs ys n
unfolding root HaveTwins
one_root a h sized zero xs ys n p q same =
    elim (list_cases ys xs) [ inl is ↦ inl is | inr other ↦ inr (record { same = same; other = other }) ]
one_root a h sized (suc levels) xs ys n p q same =
    elim (one_root a h sized levels (above a h xs n) (above a h ys n) (blocks_above a n) (blocks-above a h sized xs n)
    (blocks-above a h sized ys n) same) [
      | inr twins ↦ inr (inr twins)
      | inl is ↦
          let digests : (i : ℕ) → i < n → h (block ys i) ≡ h (block xs i) =
          λ i below. sym (digest_at-above a h sized ys n i below)
          ∙ ap (λ l. digest_at a l i) is ∙ digest_at-above a h sized xs n i below in
          elim (same_or_twins h xs ys n digests) [
            | inr twins ↦ inr (inl twins)
            | inl blocks ↦ inl (blocks_same xs ys n p q blocks)
          ]
    ]
