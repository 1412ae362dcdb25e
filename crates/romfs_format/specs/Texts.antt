-- The rules as printed.
use Rattle.std.specs.Prelude.{ℕ, List, codes}
use Rattle.romfs_format.specs.declared.rule.Rule.{Rule}
use Rattle.romfs_format.specs.declared.rule.Rule.TheVariants.{Short, Magic, FullSize, BadSum, VolumeName, NoRoot, Outside, NameOpen, NameBad, DataOutside, TargetLong, LinkedTwice, SameName, LinkLoop, LinkDirectory, MajorLarge, HeaderSum, TooDeep, Attributes}

-- what is wrong with an image that breaks the rule
abbrev pub text_of : Rule → List ℕ
text_of Short = codes "too short"
text_of Magic = codes "not romfs"
text_of FullSize = codes "bad full size"
text_of BadSum = codes "bad sum"
text_of VolumeName = codes "bad volume name"
text_of NoRoot = codes "no root"
text_of Outside = codes "header outside"
text_of NameOpen = codes "name not ended"
text_of NameBad = codes "bad name"
text_of DataOutside = codes "data outside"
text_of TargetLong = codes "target too long"
text_of LinkedTwice = codes "linked twice"
text_of SameName = codes "name twice"
text_of LinkLoop = codes "link loop"
text_of LinkDirectory = codes "link to directory"
text_of MajorLarge = codes "major too large"
text_of HeaderSum = codes "bad header sum"
text_of TooDeep = codes "too deep"
text_of Attributes = codes "bad attributes"
