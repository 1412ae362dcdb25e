-- The items of a BATCH_FORGET, by the bytes that hold them. The code keeps the bytes of the items that count: that these read as the same
-- items is `whole_items`, the main lemma, which uses `front_items`. `first_item` is a step from item to item.
use Rattle.std.proofs.Common.{◌≡◌, ◌∙◌, sym, ap, ℕ, zero, suc, ◌+◌, ◌*◌, ◌/◌, ◌≤◌, List, ◌∷◌, length, take, drop, min, refl, arith, length-drop}
use Rattle.std.proofs.lemmas.List.{drop-take, length-take-le}
use Rattle.byteorder.specs.Numbers.{little_from-take}
use Rattle.fuse_wire.specs.Requests.{forget_one, forgets_in}

-- an item is read from 16 bytes alone
one_taken : (n : ℕ) (bytes : List ℕ) → forget_one (take (16 + n) bytes) ≡ forget_one bytes
one_taken n bytes =
    let low = little_from-take 0 8 (16 + n) bytes (omega arith) in
    let split : take (16 + n) bytes ≡ take (8 + (8 + n)) bytes = ap (λ (k : ℕ). take k bytes) (omega arith) in
    let high = ap (λ v. drop 8 v) split ∙ drop-take 8 (8 + n) bytes in
    let wide = little_from-take 0 8 (8 + n) (drop 8 bytes) (omega arith) in
    rw (low, high, wide) refl

-- k items are read from the first 16 * k bytes alone
pub front_items : (k : ℕ) (bytes : List ℕ) → forgets_in k (take (16 * k) bytes) ≡ forgets_in k bytes
front_items zero bytes = refl
front_items (suc k) bytes =
    let more : 16 * suc k ≡ 16 + 16 * k = omega arith in
    let first : forget_one (take (16 * suc k) bytes) ≡ forget_one bytes = ap (λ (n : ℕ). forget_one (take n bytes)) more
    ∙ one_taken (16 * k) bytes in
    let rest : drop 16 (take (16 * suc k) bytes) ≡ take (16 * k) (drop 16 bytes) = ap (λ (n : ℕ). drop 16 (take n bytes)) more
    ∙ drop-take 16 (16 * k) bytes in
    rw (first, rest, front_items k (drop 16 bytes)) refl

-- the bytes of the first items, count of them or as many as are complete, hold these items alone
pub whole_items : (count : ℕ) (bytes : List ℕ) → forgets_in (length (take (16 * min count (length bytes / 16)) bytes) / 16)
    (take (16 * min count (length bytes / 16)) bytes) ≡ forgets_in (min count (length bytes / 16)) bytes
whole_items count bytes = go (min count (length bytes / 16)) (omega arith)
  where
    go : (k : ℕ) → 16 * k ≤ length bytes → forgets_in (length (take (16 * k) bytes) / 16) (take (16 * k) bytes) ≡ forgets_in k bytes
    go k l =
        let t = length-take-le (16 * k) bytes l in
        let e : length (take (16 * k) bytes) / 16 ≡ k = omega arith in
        ap (λ (n : ℕ). forgets_in n (take (16 * k) bytes)) e ∙ front_items k bytes

-- as many items are read as are asked for
pub counted : (n : ℕ) (bytes : List ℕ) → length (forgets_in n bytes) ≡ n
counted zero bytes = refl
counted (suc n) bytes = ap (λ (k : ℕ). suc k) (counted n (drop 16 bytes))

-- 16 bytes or more hold the item of the first 16, and then those of the bytes after it
pub first_item : (bytes : List ℕ) → 16 ≤ length bytes → forgets_in (length bytes / 16) bytes ≡ forget_one (take 16 bytes) ∷ forgets_in
    (length (drop 16 bytes) / 16) (drop 16 bytes)
first_item bytes l =
    let d = length-drop 16 bytes in
    let e : length bytes / 16 ≡ suc (length (drop 16 bytes) / 16) = omega arith in
    ap (λ (n : ℕ). forgets_in n bytes) e ∙ ap (λ f. f ∷ forgets_in (length (drop 16 bytes) / 16) (drop 16 bytes)) (sym (one_taken 0 bytes))
