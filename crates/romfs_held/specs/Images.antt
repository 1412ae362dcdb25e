-- The bytes of an owned image.
use Rattle.std.specs.Prelude.{ℕ, Bool, true, false, List}
use Rattle.romfs_held.specs.declared.image.HeldImage.{HeldImage}
use Rattle.romfs_held.specs.declared.image.HeldImage.TheVariants.{Whole, Kept}

-- all its bytes, or those that are kept and zeros where nothing is
abbrev pub held_bytes : {A : Type 0} → HeldImage A → List ℕ
held_bytes (Whole bytes) = bytes.items
held_bytes (Kept kept) = kept

-- whether all its bytes are held
abbrev pub is_whole : {A : Type 0} → HeldImage A → Bool
is_whole (Whole bytes) = true
is_whole (Kept kept) = false
