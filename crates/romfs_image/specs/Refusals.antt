-- Why an image is refused.
use Rattle.std.specs.Prelude.{ℕ, List}
use Rattle.romfs_image.specs.declared.refusal.CheckFault.{CheckFault}
use Rattle.romfs_image.specs.declared.refusal.CheckFault.TheVariants.{Broken, Memory}
use Rattle.romfs_format.specs.declared.rule.Profile.{Profile}
use Rattle.romfs_format.specs.Rules.{IsFault}

-- the image has this fault under the profile; or memory ran out
abbrev pub IsRefusal : Profile → List ℕ → CheckFault → Type 0
IsRefusal profile b (Broken fault) = IsFault profile b fault.rule fault.place
IsRefusal profile b Memory = Unit {0}
