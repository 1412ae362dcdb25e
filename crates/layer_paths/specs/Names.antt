-- The bytes of a name, wherever they are.
use Rattle.std.specs.Prelude.{ℕ, ◌<◌, List, length, ⊤}
use Rattle.layer_paths.specs.declared.name.Bytes.{Bytes}
use Rattle.layer_paths.specs.declared.name.Bytes.TheVariants.{Here, There}

-- the bytes of a name, in the value or beside it
abbrev pub bytes_of : {A : Type 0} → Bytes A → List ℕ
bytes_of (Here short) = short
bytes_of (There long) = long.value.items

-- a name beside its branch has more than 22 bytes
abbrev pub IsBesideIfLong : {A : Type 0} → Bytes A → Type 0
IsBesideIfLong (Here short) = ⊤
IsBesideIfLong (There long) = 22 < length long.value.items
