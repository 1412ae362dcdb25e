-- Why images of a list were not read.
use Rattle.std.specs.Prelude.{◌≡◌, ℕ, ◌+◌, ◌<◌, ◌⊎◌, List, Option, Some, None, get_or, is_some, length, true, Result, Ok, Err, ⊤}
use Rattle.romfs_seal.specs.declared.digest.Digest.{Digest}
use Rattle.romfs_files.specs.declared.images.FilesFault.{FilesFault}
use Rattle.romfs_files.specs.declared.images.FilesFault.TheVariants.{Unread, Unsealed, Far, Memory}
use Rattle.romfs_files.specs.declared.loaded.Loading.{Loading}
use Rattle.romfs_files.specs.Loaded.{ReadsTrailer}
use Rattle.romfs_files.specs.Sealing.{IsFarUnder}

-- a trailer may end too far: under a digest, only if it does in any bytes that are shown
abbrev pub MayBeFar : Option Digest → Type 0
MayBeFar None = ⊤
MayBeFar (Some digest) = IsFarUnder digest

-- the file of this image cannot be read; or it is not as sealed, if there is a digest for it; or
-- its trailer is read, and ends too far
abbrev pub IsUnreadAt : Loading → ℕ → Option Digest → FilesFault → Type 0
IsUnreadAt loading image digest fault =
    (fault ≡ Unread image) ⊎ (((fault ≡ Unsealed image) × (is_some digest ≡ true))
    ⊎ ((fault ≡ Far image) × ReadsTrailer loading × MayBeFar digest))

-- of a run of images, one for each of these digests, this many from number first on are read, and
-- the next one could not be; or memory ran out
abbrev pub IsNextUnread : Loading → ℕ → List (Option Digest) → ℕ → FilesFault → Type 0
IsNextUnread loading first digests read fault =
    (fault ≡ Memory) ⊎ ((read < length digests)
    × IsUnreadAt loading (first + read) (get_or digests read None) fault)

-- how many of a run of images from number first on were read: all of them, or those below the
-- reported one, or some if memory ran out
abbrev pub IsReadUpTo : Loading → ℕ → List (Option Digest) → ℕ → Result (Unit {0}) FilesFault
    → Type 0
IsReadUpTo loading first digests read (Ok u) = read ≡ length digests
IsReadUpTo loading first digests read (Err fault) = IsNextUnread loading first digests read fault
