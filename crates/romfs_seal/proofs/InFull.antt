-- A file that was read in full is each file with its digest, or a twin was met (read_or_forged).
use Rattle.std.proofs.Common.{◌≡◌, ◌∙◌, sym, ap, subst, ℕ, zero, suc, ◌*◌, ◌+◌, ◌/◌, ◌%◌, ◌^◌, ◌<◌, ◌≤◌, List}
use Rattle.std.proofs.Common.{length, slice_index, arith, inl, inr, ◌⊎◌, ext_get_or}
use Rattle.std.proofs.lemmas.Bool.{cases_lt}
use Rattle.devices.specs.declared.algorithm.Algorithm.{Algorithm}
use Rattle.devices.specs.Tree.{Hash, IsDigest, HasLevels, digest_size, root}
use Rattle.devices.specs.File.{blocks_of, in_blocks, descriptor, root_of, IsFileDigest}
use Rattle.devices.specs.Vouched.{Vouches, VouchesAt}
use Rattle.devices.specs.Seal.{Seal}
use Rattle.devices.specs.Read.{AreRead}
use Rattle.romfs_seal.specs.Twins.{IsForgedAt, AreForgedIn}
use Rattle.romfs_seal.proofs.Fans.{one_count}
use Rattle.romfs_seal.proofs.Levels.{index-block}
use Rattle.romfs_seal.proofs.Binding.{list_cases, bound_or_forged}
use Rattle.romfs_seal.proofs.FileBlocks.{blocks-file, length-root_hash, one_size, one_top, root_some}
use Rattle.romfs_seal.proofs.Filled.{index-in_blocks}

-- what vouches for a block is a digest
top_long : (a : Algorithm) (h : Hash) (sized : (m : List ℕ) → IsDigest a (h m)) (levels : ℕ) (top : List ℕ) (i : ℕ) (b : List ℕ)
    → Vouches a h levels top i b → length top ≡ digest_size a
unfolding Vouches
top_long a h sized zero top i b v = ap length (sym v) ∙ (sized b).whole
top_long a h sized (suc levels) top i b v = top_long a h sized levels top _ (v.0) (v.2)

byte_or_forged : (s : Seal) (sized : (m : List ℕ) → IsDigest s.algorithm (s.hash m)) (ys : List ℕ) → s.size < 2 ^ 64
    → (y : IsFileDigest s.algorithm s.hash ys s.digest) (place byte : ℕ)
    → (v : VouchesAt s.algorithm s.hash s.size s.digest place byte)
    → ((s.size ≡ length ys) × (byte ≡ slice_index ys place)) ⊎ IsForgedAt s ys y.levels place byte v
byte_or_forged s sized ys small y place byte v =
    let a = s.algorithm in
    let h = s.hash in
    let n = blocks_of (length ys) in
    let bs = in_blocks ys in
    elim (list_cases (descriptor a s.size v.top) (descriptor a (length ys) (root_of a h y.levels ys))) [
      | inr other ↦ inr (record { twins = inl (record { same = v.described ∙ sym y.digest; other = other }) })
      | inl same ↦
          let small_y = y.small in
          let within = v.within in
          let size : s.size ≡ length ys =
          one_size a s.size (length ys) v.top (root_of a h y.levels ys) (omega (arith, small)) (omega (arith, small_y)) same in
          let found : v.top ≡ root_of a h y.levels ys =
          one_top a s.size (length ys) v.top (root_of a h y.levels ys) (top_long a h sized v.levels v.top (place / 4096) v.of v.vouched)
          (length-root_hash a h sized y.levels bs n) same in
          let has : HasLevels a n v.levels = subst (λ k. HasLevels a (blocks_of k) v.levels) size (v.has_levels) in
          let levels : y.levels ≡ v.levels = one_count a n y.levels v.levels (y.has_levels) has in
          let below : place / 4096 < n = omega (arith, within, size) in
          let top : v.top ≡ root a h v.levels bs n =
          found ∙ root_some a h y.levels bs n (omega (arith, below)) ∙ ap (λ k. root a h k bs n) levels in
          let bytes = blocks-file ys (y.bytes) in
          elim (bound_or_forged a h sized v.levels bs n v.top (place / 4096) v.of bytes below (has.enough) top (v.vouched)) [
            | inr forged ↦ inr (record { twins = inr forged })
            | inl right ↦
                let split : 4096 * (place / 4096) + place % 4096 ≡ place = omega arith in
                inl (
                  size,
                  v.is ∙ ap (λ l. slice_index l (place % 4096)) right
                      ∙ index-block bs (place / 4096) (place % 4096) (omega arith)
                      ∙ index-in_blocks ys (4096 * (place / 4096) + place % 4096) ∙ ap (λ k. slice_index ys k) split,
                )
          ]
    ]

-- of each number, or not of one
each_or : (n : ℕ) (P : ℕ → Type 0) (Q : (k : ℕ) → k < n → Type 0) → ((k : ℕ) (below : k < n) → P k ⊎ Q k below)
    → ((k : ℕ) → k < n → P k) ⊎ ((k : ℕ) × (below : k < n) × Q k below)
each_or zero P Q cases = inl (λ k below. absurd (omega arith))
each_or (suc n) P Q cases =
    let less : (k : ℕ) → k < n → k < suc n = λ k below. omega arith in
    elim (each_or n P (λ k below. Q k (less k below)) (λ k below. cases k (less k below))) [
      | inr found ↦ inr (found.0, less (found.0) (found.1), found.2)
      | inl before ↦
          elim (cases n (omega arith)) [
            | inr found ↦ inr (n, omega arith, found)
            | inl last ↦
                inl (λ k below.
                elim (cases_lt k n) [
                  | inl near ↦ before k near
                  | inr not_less ↦ (let e : n ≡ k = omega arith in subst P e last)
                ])
          ]
    ]

pub read_or_forged : (s : Seal) (sized : (m : List ℕ) → IsDigest s.algorithm (s.hash m)) (xs ys : List ℕ) → (read : AreRead s 0 xs)
    → s.size ≡ length xs → 1 ≤ length xs → length xs < 2 ^ 64 → (y : IsFileDigest s.algorithm s.hash ys s.digest)
    → (xs ≡ ys) ⊎ AreForgedIn s ys y.levels 0 xs read
read_or_forged s sized xs ys read size some small y =
    elim (each_or (length xs) (λ k. (s.size ≡ length ys) × (slice_index xs k ≡ slice_index ys (0 + k)))
    (λ k below. IsForgedAt s ys y.levels (0 + k) (slice_index xs k) ((read.each k below).vouched))
    (λ k below. byte_or_forged s sized ys (omega (arith, size, small)) y (0 + k) (slice_index xs k) ((read.each k below).vouched))) [
      | inr found ↦ inr (record { at = found.0; within = found.1; forged = found.2 })
      | inl same ↦
          let long : s.size ≡ length ys = (same 0 (omega (arith, some))).0 in
          inl (ext_get_or 0 xs ys (sym size ∙ long)
          (λ k below. (let e : 0 + k ≡ k = omega arith in (same k below).1 ∙ ap (λ j. slice_index ys j) e)))
    ]
