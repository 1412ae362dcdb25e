use Rattle.std.proofs.Common.{refl}
use Rattle.std.proofs.lemmas.Bool.{false≢true}
use Rattle.romfs_format.specs.Links.{stays}
use Rattle.romfs_rules.proofs.ends.end_at.Goals as goal

pub returns-then-is_directory : goal.returns-then-is_directory
returns-then-is_directory c = (c.args.at, stays c.requires.last, c.if-is_directory.ensures.0 refl)

pub returns-else-is_directory : goal.returns-else-is_directory
returns-else-is_directory c = (c.args.at, stays c.requires.last, λ l. false≢true (c.if-is_directory.ensures.1 l))
