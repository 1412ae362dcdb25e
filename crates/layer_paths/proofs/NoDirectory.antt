-- The test for directories fails for every kind but Directory.
use Rattle.std.proofs.Common.{◌≡◌, ◌≢◌, refl, false}
use Rattle.romfs_format.specs.declared.head.Kind.{Kind}
use Rattle.romfs_format.specs.declared.head.Kind.TheVariants.{HardLink, Directory, Regular, SymLink, Block, Character, Socket, Fifo}
use Rattle.stack_model.specs.Attributes.{is_directory}

-- no kind but Directory passes the test for directories
pub not_directory : (k : Kind) → k ≢ Directory → is_directory k ≡ false
not_directory Directory n = absurd (n refl)
not_directory HardLink n = refl
not_directory Regular n = refl
not_directory SymLink n = refl
not_directory Block n = refl
not_directory Character n = refl
not_directory Socket n = refl
not_directory Fifo n = refl
