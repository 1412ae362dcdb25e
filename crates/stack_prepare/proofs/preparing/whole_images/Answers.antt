use Rattle.stack_prepare.proofs.Stacked.{whole_bytes, wholes}
use Rattle.stack_prepare.proofs.preparing.whole_images.Goals as goal

pub returns-clause-bytes : goal.returns-clause-bytes
returns-clause-bytes g c = whole_bytes c.args.images.items _ c.in_ok-all_whole.ensures

pub returns-clause-whole : goal.returns-clause-whole
returns-clause-whole g c = wholes c.args.images.items _ c.in_ok-all_whole.ensures
