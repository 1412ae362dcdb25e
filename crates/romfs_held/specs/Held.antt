-- The list of bytes of an image that is held.
use Rattle.std.specs.Prelude.{ℕ, List, ⊤}
use Rattle.romfs_held.specs.declared.held.Form.{Form}
use Rattle.romfs_held.specs.declared.held.Form.TheVariants.{Whole, Sparse}
use Rattle.romfs_held.specs.Blocks.{IsKept, filled}

-- all bytes, or those of the blocks and zeros between
abbrev pub bytes_of : Form → List ℕ
bytes_of (Whole bytes) = bytes.now
bytes_of (Sparse size blocks bytes) = filled size blocks.all.now bytes.now

-- held blocks are in order, and complete
abbrev pub IsHeld : Form → Type 0
IsHeld (Whole bytes) = ⊤
IsHeld (Sparse size blocks bytes) = IsKept blocks.all.now bytes.now
