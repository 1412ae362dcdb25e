use Rattle.std.proofs.Common.{arith, codes}
use Rattle.std.proofs.lemmas.Result.{IfOk-weaker}
use Rattle.romfs_kept.specs.Tails.{BeginsTrailer, BeginsWith}
use Rattle.romfs_kept.proofs.Tails.{not_there, begins_there}
use Rattle.romfs_kept.proofs.trailer.begins_trailer.Goals as goal

pub returns-then-place-eq-PLACES-clause-ok : goal.returns-then-place-eq-PLACES-clause-ok
returns-then-place-eq-PLACES-clause-ok g c = not_there _ _ c.if-place-eq-PLACES.true

pub returns-clause-ok : goal.returns-clause-ok
returns-clause-ok g c =
    let b = g.S.Contents.source c.args.source.now in
    IfOk-weaker c.begins_with.result (BeginsWith b c.args.place (codes "-attr01-")) (BeginsTrailer b c.args.place)
    (λ yes h. begins_there b c.args.place yes (omega (arith, c.requires.place, c.if-place-eq-PLACES.false)) h)
    c.begins_with.ensures.ok
