use Rattle.reply_model.proofs.Given.{lookup_gives, readdirplus_gives}
use Rattle.reply_model.proofs.laws.entries_are_given.Goals as goal

pub returns-clause-lookup : goal.returns-clause-lookup
returns-clause-lookup c = lookup_gives

pub returns-clause-readdirplus : goal.returns-clause-readdirplus
returns-clause-readdirplus c = readdirplus_gives
