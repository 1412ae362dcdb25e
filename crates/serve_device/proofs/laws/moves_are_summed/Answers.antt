use Rattle.serve_device.proofs.Sums.{came, read}
use Rattle.serve_device.proofs.laws.moves_are_summed.Goals as goal

pub returns-clause-read : goal.returns-clause-read
returns-clause-read g c = λ session over within old new each. read session over within old new each

pub returns-clause-each : goal.returns-clause-each
returns-clause-each g c = λ session over within old new each. came session over within old new each
