use Rattle.std.proofs.Common.{arith}
use Rattle.devices.proofs.Given.{reads_held}
use Rattle.romfs_reader.proofs.view.ImageViewContents.read_at.Goals as goal

pub returns-clause-given : goal.returns-clause-given
returns-clause-given c = reads_held c.args.self.now _ _ _
    (rw c.self.view_is at c.copy_some.ensures.same, λ none some. absurd (let n = c.copy_some.ensures.some in omega arith))
