use Rattle.romfs_format.specs.TrailerExamples.{two_rows}
use Rattle.serve_core.proofs.Themselves.{itself}
use Rattle.serve_core.proofs.WorkedTrailer.{differs}
use Rattle.serve_core.proofs.kept_examples.trailer_left_out_example.Goals as goal

pub returns-clause-gathered : goal.returns-clause-gathered
returns-clause-gathered c = itself two_rows

pub returns-clause-rows : goal.returns-clause-rows
returns-clause-rows c = differs
