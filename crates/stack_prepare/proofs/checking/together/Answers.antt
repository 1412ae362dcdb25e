use Rattle.std.proofs.Common.{◌≡◌, Ok}
use Rattle.stack_prepare.proofs.Checked.{joins_both}
use Rattle.stack_prepare.proofs.checking.together.Goals as goal

pub returns-in-Ok-Ok : goal.returns-in-Ok-Ok
returns-in-Ok-Ok g c =
    let low = c.in-Ok-Ok.is-0 in
    let high = c.in-Ok-Ok.is-1 in
    let all = c.in-Ok-Ok.all-is in
    let rest = c.in-Ok-Ok.rest-is in
    let lows : c.args.low ≡ Ok c.in-Ok-Ok.all = cc in
    let highs : c.args.high ≡ Ok c.in-Ok-Ok.rest = cc in
    joins_both c.args.low c.args.high c.in-Ok-Ok.all c.in-Ok-Ok.rest c.joined.result lows highs c.joined.ensures.ok c.joined.ensures.err
