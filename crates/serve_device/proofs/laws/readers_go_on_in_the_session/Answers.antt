use Rattle.serve_device.proofs.Begun.{went_on}
use Rattle.serve_device.proofs.laws.readers_go_on_in_the_session.Goals as goal

pub returns : goal.returns
returns g c = λ first over within old new before served. went_on over within first old new before served
