-- A value that is found in a list that a file may have is short (all_short).
use Rattle.std.proofs.Common.{◌≡◌, ◌≤◌, sym, ℕ, List, length, Option, Some, None, Bor, true}
use Rattle.std.specs.Prelude.{IfSome}
use Rattle.std.specs.Option.{option_map}
use Rattle.romfs_format.specs.declared.limits.TheConstants.{MAX_XATTR_SIZE}
use Rattle.romfs_format.specs.Extended.{is_list, value_of}
use Rattle.romfs_format.specs.Part.{numbered}
use Rattle.romfs_format.proofs.Values.{values_short}

pub all_short : (y : List ℕ) (n : ℕ) (name : List ℕ) → is_list (numbered y n) ≡ true → (o : Option (Bor (List ℕ)))
    → option_map (λ (v : Bor (List ℕ)). v.now) o ≡ value_of name (numbered y n)
    → IfSome o (λ (v : Bor (List ℕ)). length v.now ≤ MAX_XATTR_SIZE)
all_short y n name e None f = tt
all_short y n name e (Some v) f = values_short name (numbered y n) e v.now (sym f)
