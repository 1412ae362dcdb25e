use Rattle.std.proofs.Common.{◌∙◌, ap, inl, refl}
use Rattle.romfs_files.specs.Opening.{loaded_contents}
use Rattle.strata_images.specs.Checking.{AreNotGood}
use Rattle.strata_images.specs.Texts.{size_lines}
use Rattle.strata_images.proofs.Listed.{told_on}
use Rattle.strata_images.proofs.Sizes.{good_put}
use Rattle.strata_images.proofs.checking.put_sizes.Goals as goal

pub returns-in_err-sizes-clause-stopped : goal.returns-in_err-sizes-clause-stopped
returns-in_err-sizes-clause-stopped g c =
    let state = g.K.Sink.state c.args.output.now in
    told_on (λ told. AreNotGood c.args.line.now (loaded_contents c.args.images) told state state)
    c.from_residual.result c.in_err-sizes.field-0.0 c.from_residual.ensures.1 (inl (c.in_err-sizes.ensures.err, refl))

pub returns-clause-done : goal.returns-clause-done
returns-clause-done g c =
    good_put c.args.line.now (loaded_contents c.args.images) c.in_ok-sizes.sizes.items c.as_bytes.result.now
    (g.K.Sink.state c.args.output.now) (g.K.Sink.state c.put_lines.new.sink) c.in_ok-sizes.ensures.ok
    (c.as_bytes.ensures.value ∙ c.in_ok-lines.ensures ∙ ap (size_lines 0) c.as_slice.ensures.value) c.in_ok-put_lines.ensures.ok
