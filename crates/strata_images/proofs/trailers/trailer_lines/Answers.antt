use Rattle.std.proofs.Common.{◌∙◌, ap, ◌++◌, string_bytes, arith}
use Rattle.romfs_files.specs.declared.loaded.LoadedImage.{LoadedImage}
use Rattle.romfs_files.specs.Opening.{loaded_bytes}
use Rattle.strata_images.specs.Texts.{trailer_line}
use Rattle.strata_images.proofs.Noted.{all_noted, trailer_of}
use Rattle.strata_images.proofs.Printed.{none_printed, one_more_printed, all_printed}
use Rattle.strata_images.proofs.trailers.trailer_lines.Goals as goal

pub loop-layer-init : goal.loop-layer-init
loop-layer-init g c = none_printed trailer_of 0 c.args.images.now (string_bytes c.new-lines.result) c.new-lines.ensures.bytes

pub loop-layer-preserved : goal.loop-layer-preserved
loop-layer-preserved g c =
    let layer = c.loop-layer.layer in
    let bytes = λ (image : LoadedImage g.row.F.Denot g.row.A.Denot). loaded_bytes image in
    one_more_printed trailer_of 0 c.args.images.now c.loop-layer.invariant _ layer c.index-images-layer.result (omega arith)
    c.loop-layer-test.true
    (c.in_ok-put_trailer_line.ensures
    ∙ ap (λ b. string_bytes c.loop-layer.lines ++ trailer_line layer b) (c.held.ensures ∙ ap bytes c.index-images-layer.is))

pub returns : goal.returns
returns g c = all_printed trailer_of 0 c.args.images.now _ _ c.loop-layer-test.false c.loop-layer.invariant
    ∙ all_noted 0 c.args.images.now
