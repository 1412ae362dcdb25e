use Rattle.std.proofs.Common.{◌∙◌, sym, subst, arith}
use Rattle.romfs_files.specs.declared.loaded.Loading.TheVariants as how
use Rattle.romfs_files.specs.Sealing.{AreLoadedBy}
use Rattle.strata_images.specs.Images.{IsLoadingOf, trailers_of}
use Rattle.strata_images.proofs.Opened.{loaded_sources}
use Rattle.strata_images.proofs.ReadFor.{opened_for}
use Rattle.strata_images.proofs.Unread.{unread_told}
use Rattle.strata_images.proofs.images.open_all.Goals as goal

pub returns-clause-read : goal.returns-clause-read
returns-clause-read g c =
    let images = c.in_ok-images.images in
    opened_for c.args.line.now g.R.File.Read.remaining c.loading_of-loading.result images.items c.in_ok-of.field-0.held.items
    c.in_ok-of.field-0.files.items (sym images.ok.0 ∙ omega (arith, c.in_ok-images.ensures.ok, c.as_slice-paths.ensures.len))
    (subst (λ t. IsLoadingOf c.args.line.now (how.Open t) c.loading_of-loading.result) c.trailers_of.ensures c.loading_of-loading.ensures)
    (subst (λ ds. AreLoadedBy g.R.File.Read.remaining c.loading_of-loading.result ds images.items) c.as_slice.ensures.value
    c.in_ok-images.ensures.loaded)
    c.in_ok-of.ensures

pub returns-clause-sources : goal.returns-clause-sources
returns-clause-sources g c =
    loaded_sources c.args.line.now g.R.File.Read.remaining c.loading_of-loading.result c.in_ok-images.images.items
    c.in_ok-of.field-0.held.items c.in_ok-of.field-0.files.items
    (subst (λ t. IsLoadingOf c.args.line.now (how.Open t) c.loading_of-loading.result) c.trailers_of.ensures c.loading_of-loading.ensures)
    (subst (λ ds. AreLoadedBy g.R.File.Read.remaining c.loading_of-loading.result ds c.in_ok-images.images.items)
    c.as_slice.ensures.value c.in_ok-images.ensures.loaded)
    c.in_ok-of.ensures

pub returns-in_err-images-clause-err : goal.returns-in_err-images-clause-err
returns-in_err-images-clause-err g c =
    unread_told c.args.line.now c.loading_of-loading.result (how.Open (trailers_of c.args.line.now))
    (subst (λ t. IsLoadingOf c.args.line.now (how.Open t) c.loading_of-loading.result) c.trailers_of.ensures c.loading_of-loading.ensures)
    (λ read. read) _ _ c.in_err-images.field-0.0 c.from_residual.result
    (omega (arith, c.as_slice-paths.ensures.len)) c.as_slice.ensures.value
    c.in_err-images.ensures.err c.from_residual.ensures.1
