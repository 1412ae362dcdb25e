-- The rules that the volume header of an image breaks and keeps.
use Rattle.std.specs.Prelude.{ℕ, ◌+◌, ◌≤◌, List, length, Option, MatchOption}
use Rattle.romfs_format.specs.declared.limits.TheConstants.{HEAD_SIZE}
use Rattle.romfs_format.specs.declared.rule.ImageFault.{ImageFault}
use Rattle.romfs_format.specs.declared.rule.Profile.{Profile}
use Rattle.romfs_format.specs.Fields.{image, root, word}
use Rattle.romfs_format.specs.Rules.{IsFault, IsVolume}

-- the fault of b under every profile, in its volume header; none if that keeps its rules
abbrev pub IsVolumeFault : List ℕ → Option ImageFault → Type 0
IsVolumeFault b fault =
    MatchOption fault (IsVolume b) (λ f. (profile : Profile) → IsFault profile b f.rule f.place)

-- b has as many bytes as its full size says, and among them the root's header
abbrev pub HoldsRoot : List ℕ → Type 0
HoldsRoot b =
    (HEAD_SIZE ≤ word b 8) × (word b 8 ≤ length b) × (root (image b) + HEAD_SIZE ≤ word b 8)
