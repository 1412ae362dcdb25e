use Rattle.std.proofs.Common.{[], ◌∷◌}
use Rattle.strata_images.proofs.Told.{front_more, then_more}
use Rattle.strata.proofs.faults.write_long.Goals as goal

pub returns-in_err-write_bytes-clause-front : goal.returns-in_err-write_bytes-clause-front
returns-in_err-write_bytes-clause-front g c = front_more c.args.text.now (10 ∷ []) _ _ c.write_bytes.ensures.front

pub returns-clause-front : goal.returns-clause-front
returns-clause-front g c = then_more c.args.text.now (10 ∷ []) _ _ _ c.in_ok-write_bytes.ensures.whole c.write_bytes-2.ensures.front
