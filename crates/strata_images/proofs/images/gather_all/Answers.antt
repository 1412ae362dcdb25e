use Rattle.std.proofs.Common.{subst, arith}
use Rattle.romfs_files.specs.declared.loaded.Loading.TheVariants as how
use Rattle.romfs_files.specs.Sealing.{AreLoadedBy}
use Rattle.strata_images.specs.Images.{IsLoadingOf, trailers_of}
use Rattle.strata_images.proofs.Opened.{loaded_ones}
use Rattle.strata_images.proofs.Unread.{unread_told}
use Rattle.strata_images.proofs.images.gather_all.Goals as goal

pub returns-clause-held : goal.returns-clause-held
returns-clause-held g c =
    loaded_ones c.args.line.now g.R.File.Read.remaining c.loading_of-loading.result c.in_ok-load.field-0.items
    (subst (λ t. IsLoadingOf c.args.line.now (how.Gather t) c.loading_of-loading.result) c.trailers_of.ensures c.loading_of-loading.ensures)
    (subst (λ ds. AreLoadedBy g.R.File.Read.remaining c.loading_of-loading.result ds c.in_ok-load.field-0.items)
    c.as_slice.ensures.value c.in_ok-load.ensures.loaded)

pub returns-in_err-load-clause-err : goal.returns-in_err-load-clause-err
returns-in_err-load-clause-err g c =
    unread_told c.args.line.now c.loading_of-loading.result (how.Gather (trailers_of c.args.line.now))
    (subst (λ t. IsLoadingOf c.args.line.now (how.Gather t) c.loading_of-loading.result) c.trailers_of.ensures c.loading_of-loading.ensures)
    (λ read. read) _ _ c.in_err-load.field-0.0 c.from_residual.result (omega (arith, c.as_slice-paths.ensures.len)) c.as_slice.ensures.value
    c.in_err-load.ensures.err c.from_residual.ensures.1
