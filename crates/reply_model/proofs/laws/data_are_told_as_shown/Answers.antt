use Rattle.reply_model.proofs.HeldData.{shown_layers_told, same_layers_told, are_held, honest_held, data_vouched}
use Rattle.reply_model.proofs.laws.data_are_told_as_shown.Goals as goal

pub returns-clause-shown : goal.returns-clause-shown
returns-clause-shown c = shown_layers_told

pub returns-clause-same : goal.returns-clause-same
returns-clause-same c = same_layers_told

pub returns-clause-held : goal.returns-clause-held
returns-clause-held c = are_held

pub returns-clause-honest : goal.returns-clause-honest
returns-clause-honest c = honest_held

pub returns-clause-vouched : goal.returns-clause-vouched
returns-clause-vouched c = data_vouched
