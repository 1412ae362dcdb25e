use Rattle.std.proofs.Common.{◌∙◌, sym}
use Rattle.std.proofs.lemmas.Bool.{false≢true}
use Rattle.romfs_rules.proofs.Links.{first_named, no_first}
use Rattle.romfs_rules.proofs.link.first_link.Goals as goal

pub returns-then-is_opened : goal.returns-then-is_opened
returns-then-is_opened g c = first_named c.args.volume.now.bytes.now c.args.at c.first_of.result
    (c.is_opened.ensures.0 c.if-is_opened.true) c.first_of.ensures

pub returns-else-is_opened : goal.returns-else-is_opened
returns-else-is_opened g c = no_first c.args.volume.now.bytes.now c.args.at
    (λ x. false≢true (sym c.if-is_opened.false ∙ c.is_opened.ensures.1 x))
