use Rattle.std.proofs.Common.{◌≡◌, ℕ, sym, arith}
use Rattle.std.specs.Prelude.{true, false}
use Rattle.romfs_format.proofs.Below.{fails_below, one_more}
use Rattle.romfs_format.specs.Part.{leads}
use Rattle.romfs_format.specs.Trailer.{mode_of}
use Rattle.romfs_rows.proofs.part.rows_lead.Goals as goal

pub returns-then-not-row_leads : goal.returns-then-not-row_leads
returns-then-not-row_leads c =
    let test = leads c.args.count (mode_of c.args.trailer.now) c.args.part.now in
    let e : test c.loop-number.number ≡ false = cc in
    sym (fails_below c.args.count test c.loop-number.number (omega arith) e)

pub loop-number-preserved : goal.loop-number-preserved
loop-number-preserved c =
    let test = leads c.args.count (mode_of c.args.trailer.now) c.args.part.now in
    let e : test c.loop-number.number ≡ true = cc in
    one_more c.loop-number.number test c.loop-number.invariant e
