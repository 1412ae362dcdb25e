-- Refusals as printed.
use Rattle.std.specs.Prelude.{ℕ, List, codes}
use Rattle.romfs_format.specs.Texts.{text_of}
use Rattle.romfs_image.specs.declared.refusal.CheckFault.{CheckFault}
use Rattle.romfs_image.specs.declared.refusal.CheckFault.TheVariants.{Broken, Memory}

-- why an image is refused
abbrev pub refusal_text : CheckFault → List ℕ
refusal_text (Broken fault) = text_of fault.rule
refusal_text Memory = codes "out of memory"
