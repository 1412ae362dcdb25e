use Rattle.strata_images.proofs.Rules.{judged}
use Rattle.strata_images.proofs.laws.opened_images_are_judged_as_their_data.Goals as goal

pub returns : goal.returns
returns c = judged
