use Rattle.serve_device.proofs.Begun.{ended_before}
use Rattle.serve_device.proofs.laws.one_ends_before_the_session.Goals as goal

pub returns : goal.returns
returns g c = λ first over within old new served. ended_before over within first old new served
