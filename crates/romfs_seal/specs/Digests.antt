-- SHA-256 and SHA-512 return digests (is_digest).
use Rattle.std.proofs.Common.{◌≡◌, ℕ, zero, suc, ◌<◌, List, [], ◌∷◌, ◌++◌, length, arith, slice_index}
use Rattle.std.specs.Int.{to_be_bytes, w32, w64, byte_at}
use Rattle.sha2.specs.Sha256.{sha256, initial_hash_256}
use Rattle.sha2.specs.Sha256 as short
use Rattle.sha2.specs.Sha512.{sha512, initial_hash_512}
use Rattle.sha2.specs.Sha512 as long
use Rattle.sha2.proofs.Facts256.{length-sha256}
use Rattle.sha2.proofs.Facts512.{length-sha512}
use Rattle.devices.specs.declared.algorithm.Algorithm.{Algorithm}
use Rattle.devices.specs.declared.algorithm.Algorithm.TheVariants.{Sha256, Sha512}
use Rattle.romfs_seal.specs.declared.digest.Digest.{Digest}
use Rattle.romfs_seal.specs.declared.digest.Digest.TheVariants.{Short, Long}
use Rattle.devices.specs.Tree.{AreBytes, IsDigest}
use Rattle.std.proofs.Common.{◌-◌, get_or, sym, refl, subst, length-append, inl, inr}
use Rattle.std.proofs.lemmas.List.{get_or_append_left, get_or-append_right}
use Rattle.std.proofs.lemmas.Bool.{cases_lt}

-- the bytes of a digest
abbrev pub digest_bytes : Digest → List ℕ
digest_bytes (Short bytes) = bytes
digest_bytes (Long bytes) = bytes

-- the algorithm that makes such digests
abbrev pub made_by : Digest → Algorithm
made_by (Short bytes) = Sha256
made_by (Long bytes) = Sha512

-- the digest by an algorithm
abbrev pub sha : Algorithm → List ℕ → List ℕ
sha Sha256 bytes = sha256 bytes
sha Sha512 bytes = sha512 bytes

pub bytes_nil : AreBytes []
bytes_nil = record { small = λ k below. absurd (omega arith) }

cases_of : (x : ℕ) (xs : List ℕ) → x < 256 → AreBytes xs → (k : ℕ) → k < suc (length xs)
    → slice_index (x ∷ xs) k < 256
cases_of x xs small a zero below = small
cases_of x xs small a (suc k) below = a.small k (omega arith)

pub bytes-cons : (x : ℕ) (xs : List ℕ) → x < 256 → AreBytes xs → AreBytes (x ∷ xs)
bytes-cons x xs small a = record { small = cases_of x xs small a }

pub bytes-append : (p q : List ℕ) → AreBytes p → AreBytes q → AreBytes (p ++ q)
bytes-append p q a b = record {
  small = λ k below.
      let size = length-append p q in
      elim (cases_lt k (length p)) [
        | inl less ↦ subst (λ x. x < 256) (sym (get_or_append_left p q 0 k less)) (a.small k less)
        | inr past ↦
            let e : get_or (p ++ q) k 0 ≡ get_or q (k - length p) 0 =
            get_or-append_right p q (length p) k 0 refl past in
            subst (λ x. x < 256) (sym e) (b.small (k - length p) (omega arith))
      ];
}

byte_small : (k n : ℕ) → byte_at k n < 256
byte_small zero n = omega arith
byte_small (suc k) n = omega arith

half_small : (n : ℕ) (rest : List ℕ) → AreBytes rest
    → AreBytes (byte_at 3 n ∷ byte_at 2 n ∷ byte_at 1 n ∷ byte_at 0 n ∷ rest)
half_small n rest a =
    bytes-cons (byte_at 3 n) (byte_at 2 n ∷ byte_at 1 n ∷ byte_at 0 n ∷ rest) (byte_small 3 n)
    (bytes-cons (byte_at 2 n) (byte_at 1 n ∷ byte_at 0 n ∷ rest) (byte_small 2 n)
    (bytes-cons (byte_at 1 n) (byte_at 0 n ∷ rest) (byte_small 1 n)
    (bytes-cons (byte_at 0 n) rest (byte_small 0 n) a)))

upper_small : (n : ℕ) (rest : List ℕ) → AreBytes rest
    → AreBytes (byte_at 7 n ∷ byte_at 6 n ∷ byte_at 5 n ∷ byte_at 4 n ∷ rest)
upper_small n rest a =
    bytes-cons (byte_at 7 n) (byte_at 6 n ∷ byte_at 5 n ∷ byte_at 4 n ∷ rest) (byte_small 7 n)
    (bytes-cons (byte_at 6 n) (byte_at 5 n ∷ byte_at 4 n ∷ rest) (byte_small 6 n)
    (bytes-cons (byte_at 5 n) (byte_at 4 n ∷ rest) (byte_small 5 n)
    (bytes-cons (byte_at 4 n) rest (byte_small 4 n) a)))

short_small : (words : List ℕ) (n : ℕ) → AreBytes (short.digest_bytes words n)
unfolding short.digest_bytes
short_small words zero = bytes_nil
short_small words (suc n) =
    bytes-append (short.digest_bytes words n) (to_be_bytes w32 (slice_index words n))
    (short_small words n)
    (half_small (slice_index words n) [] bytes_nil)

long_small : (words : List ℕ) (n : ℕ) → AreBytes (long.digest_bytes words n)
unfolding long.digest_bytes
long_small words zero = bytes_nil
long_small words (suc n) =
    bytes-append (long.digest_bytes words n) (to_be_bytes w64 (slice_index words n))
    (long_small words n)
    (upper_small (slice_index words n) (byte_at 3 (slice_index words n)
    ∷ byte_at 2 (slice_index words n) ∷ byte_at 1 (slice_index words n)
    ∷ byte_at 0 (slice_index words n) ∷ []) (half_small (slice_index words n) [] bytes_nil))

pub is_digest : (a : Algorithm) (m : List ℕ) → IsDigest a (sha a m)
unfolding sha256 sha512
is_digest Sha256 m = record {
  whole = length-sha256 m;
  bytes = short_small (short.final_hash initial_hash_256 m) 8;
}
is_digest Sha512 m = record {
  whole = length-sha512 m;
  bytes = long_small (long.final_hash initial_hash_512 m) 8;
}
