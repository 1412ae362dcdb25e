use Rattle.std.proofs.Common.{sym, subst, IfOk}
use Rattle.romfs_files.specs.Sealing.{IsLoadedUnder, IsNameUnder}
use Rattle.romfs_files.specs.declared.image_data.ImageData.TheVariants.{Sealed}
use Rattle.devices.specs.Sources.{sealed}
use Rattle.romfs_seal.specs.Named.{seal_of}
use Rattle.romfs_files.specs.Loaded.{ReadsTrailer}
use Rattle.romfs_files.proofs.Files.{not_gathered}
use Rattle.romfs_files.proofs.UnderDigest.{far_under, gathered_as, opened_as, under_name, whole_under}
use Rattle.romfs_files.proofs.sealing.load_under.Goals as goal

pub returns-in_ok-all_of-in-Whole-clause-ok : goal.returns-in_ok-all_of-in-Whole-clause-ok
returns-in_ok-all_of-in-Whole-clause-ok g c = λ digest under.
    let same : IsNameUnder digest c.shared.result = subst (λ n. IsNameUnder digest n) (sym c.shared.ensures) under in
    subst (λ l. IsLoadedUnder digest l c.whole.result) (sym c.in-Whole.is)
    (whole_under digest (Sealed c.shared.result) c.in_ok-all_of-in-Whole.field-0 c.whole.result (under_name digest c.shared.result same)
    c.in_ok-all_of-in-Whole.ensures.given c.in_ok-all_of-in-Whole.ensures.size c.whole.ensures.held c.whole.ensures.source)

pub returns-in-Open-clause-ok : goal.returns-in-Open-clause-ok
returns-in-Open-clause-ok g c = λ digest under.
    subst (λ l. IfOk c.open_sealed.result (IsLoadedUnder digest l)) (sym c.in-Open.is)
    (opened_as digest c.args.source c.in-Open.trailers c.open_sealed.result under c.open_sealed.ensures.ok)

pub returns-in-Gather-clause-ok : goal.returns-in-Gather-clause-ok
returns-in-Gather-clause-ok g c = λ digest under.
    subst (λ l. IfOk c.gather_sealed.result (IsLoadedUnder digest l)) (sym c.in-Gather.is)
    (gathered_as digest c.args.source c.in-Gather.trailers c.gather_sealed.result under c.gather_sealed.ensures.ok)

pub returns-in-Open-clause-err : goal.returns-in-Open-clause-err
returns-in-Open-clause-err g c = λ digest under.
    not_gathered c.in-Open.trailers (sealed (seal_of c.args.source)) c.open_sealed.result
    (λ read far. (subst ReadsTrailer (sym c.in-Open.is) read, far_under digest c.args.source under far)) c.open_sealed.ensures.err

pub returns-in-Gather-clause-err : goal.returns-in-Gather-clause-err
returns-in-Gather-clause-err g c = λ digest under.
    not_gathered c.in-Gather.trailers (sealed (seal_of c.args.source)) c.gather_sealed.result
    (λ read far. (subst ReadsTrailer (sym c.in-Gather.is) read, far_under digest c.args.source under far)) c.gather_sealed.ensures.err
