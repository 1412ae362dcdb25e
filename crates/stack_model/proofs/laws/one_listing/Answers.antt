use Rattle.stack_model.proofs.Listings.{one_listing}
use Rattle.stack_model.proofs.laws.one_listing.Goals as goal

pub returns : goal.returns
returns c = one_listing
