-- A block that was filled from a source (given_filled), and a digest among some (digest_is).
use Rattle.std.proofs.Common.{◌≡◌, ◌∙◌, sym, ap, ℕ, ◌+◌, ◌-◌, ◌*◌, ◌≤◌, List, ◌++◌, length, take, drop, replicate, arith, length-append, length-take-le, length-drop}
use Rattle.std.proofs.lemmas.List.{take_at, take_all, length-replicate}
use borrow.Rule.Slice.PartMut.{put_mid, same_len_mid}
use Rattle.devices.specs.Given.{Given, Allows}
use Rattle.devices.proofs.Rooms.{put_front}
use Rattle.devices.specs.declared.algorithm.Algorithm.{Algorithm}
use Rattle.devices.specs.Tree.{AreBytes, digest_size, digest_at}
use Rattle.devices.specs.File.{filled}
use Rattle.devices.specs.Seal.{IsGiven}

pub given_filled : (source : Given) (place count k : ℕ) (room block zeros : List ℕ)
    → length room ≡ count → length block ≡ 4096 → count ≤ 4096 → AreBytes room → Allows source place room → k ≡ 4096 - count
    → zeros ≡ replicate (length (take k (drop count (room ++ drop count block)))) 0
    → IsGiven source place count (put_mid count k (room ++ drop count block) zeros)
unfolding filled
given_filled source place count k room block zeros long whole fits bytes given rest cleared =
    let all = room ++ drop count block in
    let left = length-drop count block in
    let both = length-append room (drop count block) in
    let size : length all ≡ 4096 = omega (arith, left, both, long, whole, fits) in
    let behind : length (drop count all) ≡ k = (let d = length-drop count all in omega (arith, d, size, rest)) in
    let count_is : length (take k (drop count all)) ≡ k = length-take-le k (drop count all) (omega (arith, behind)) in
    let zeros_are : zeros ≡ replicate k 0 = cleared ∙ ap (λ j. replicate {A = ℕ} j 0) count_is in
    let many : length zeros ≡ k = ap length zeros_are ∙ length-replicate {A = ℕ} k 0 in
    let same : length (put_mid count k all zeros) ≡ length all = same_len_mid count k all zeros (many ∙ sym count_is) in
    let end : count + k ≡ 4096 = omega (arith, rest, fits) in
    let is : put_mid count k all zeros ≡ room ++ replicate (4096 - length room) 0 =
    sym (take_all (count + k) (put_mid count k all zeros) (omega (arith, same, size, end)))
    ∙ put_front all zeros count k k (omega (arith, size, fits)) (omega (arith, many))
    ∙ ap (λ l. l ++ take k zeros) (take_at room (drop count block) count long)
    ∙ ap (λ l. room ++ l) (take_all k zeros (omega (arith, many)) ∙ zeros_are)
    ∙ ap (λ j. room ++ replicate j 0) (omega (arith, rest, long)) in
    record { of = room; bytes = bytes; long = long; given = given; is = is }

pub digest_is : (a : Algorithm) (size place : ℕ) (digests : List ℕ) → size ≡ digest_size a
    → take size (drop (size * place) digests) ≡ digest_at a digests place
unfolding digest_at
digest_is a size place digests e = ap (λ k. take k (drop (k * place) digests)) e
