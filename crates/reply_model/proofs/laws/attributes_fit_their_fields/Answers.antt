use Rattle.reply_model.proofs.Widths.{attributes_fit}
use Rattle.reply_model.proofs.laws.attributes_fit_their_fields.Goals as goal

pub returns-clause-fields : goal.returns-clause-fields
returns-clause-fields c = attributes_fit
