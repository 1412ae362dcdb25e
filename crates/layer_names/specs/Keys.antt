-- Bytes, and the first ones of a list as one number.
use Rattle.std.specs.Prelude.{ℕ, zero, suc, ◌+◌, ◌*◌, ◌<◌, List, slice_index, All}

-- the first n bytes as a number, the first byte highest; missing bytes are zeros
abbrev pub key : ℕ → List ℕ → ℕ
key zero bytes = 0
key (suc n) bytes = key n bytes * 256 + slice_index bytes n

-- each is a byte
abbrev pub AreBytes : List ℕ → Type 0
AreBytes xs = All (λ x. x < 256) xs
