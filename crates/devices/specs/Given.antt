-- pread(2): what reads from a file may give.
use Rattle.std.specs.Prelude.{◌≡◌, ◌+◌, ◌<◌, ℕ, List, length, take, drop, ⊤}

-- anything; or these bytes alone, and no read fails
pub data Given : Type 0 where
  anything : Given
  these : List ℕ → Given

-- reads from the place on may give these bytes
abbrev pub Allows : Given → ℕ → List ℕ → Type 0
Allows anything place bytes = ⊤
Allows (these xs) place bytes = bytes ≡ take (length bytes) (drop place xs)

-- there may be fewer than n bytes from the place on
abbrev pub IsShort : Given → ℕ → ℕ → Type 0
IsShort anything place n = ⊤
IsShort (these xs) place n = length xs < place + n
