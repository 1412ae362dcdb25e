use Rattle.layer_paths.proofs.Listed.{is_listing}
use Rattle.layer_tree.proofs.laws.entries_are_the_listing.Goals as goal

pub returns : goal.returns
returns c layers t is = is_listing layers t is
