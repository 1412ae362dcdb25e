-- The counts of a new source after it was read to its end, and why a file was not read or loaded.
use Rattle.std.specs.Prelude.{◌≡◌, ◌≤◌, ◌⊎◌, Some, Result, Ok, Err}
use Rattle.devices.specs.declared.counts.LastPull.TheVariants.{End, Failure}
use Rattle.devices.specs.declared.counts.Pulls.{Pulls}
use Rattle.devices.specs.declared.limits.TheConstants.{MAX_TURNS}
use Rattle.romfs_kept.specs.declared.fault.GatherFault.{GatherFault}
use Rattle.romfs_kept.specs.declared.fault.GatherFault.TheVariants.{Unread, Far, Memory}

-- it met its end within the most pulls; or its only failure was the last pull; or it was pulled as
-- often as allowed, without an end or a failure; or memory ran out
abbrev pub IsReadThrough : {X : Type 0} → Pulls → Result X GatherFault → Type 0
IsReadThrough p (Ok x) = (p.last ≡ Some End) × (p.failures ≡ 0) × (p.pulls ≤ MAX_TURNS)
IsReadThrough p (Err Unread) =
    ((p.last ≡ Some Failure) × (p.failures ≡ 1) × (p.ends ≡ 0) × (p.pulls ≤ MAX_TURNS))
    ⊎ ((p.pulls ≡ MAX_TURNS) × (p.failures ≡ 0) × (p.ends ≡ 0))
IsReadThrough p (Err Far) = ⊥
IsReadThrough p (Err Memory) = (p.failures ≡ 0) × (p.ends ≡ 0) × (p.pulls ≤ MAX_TURNS)

-- memory ran out, or the file was not read
abbrev pub IsReadFault : GatherFault → Type 0
IsReadFault fault = (fault ≡ Memory) ⊎ (fault ≡ Unread)

-- the same; or its trailer ends too far, and then this holds
abbrev pub IsLoadFault : Type 0 → GatherFault → Type 0
IsLoadFault Holds fault = IsReadFault fault ⊎ ((fault ≡ Far) × Holds)
