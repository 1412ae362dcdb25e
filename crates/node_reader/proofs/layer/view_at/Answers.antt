use Rattle.std.proofs.Common.{◌∙◌, refl, sym, ap}
use Rattle.std.specs.Prelude.{Some}
use Rattle.std.specs.Option.{option_map}
use Rattle.std.proofs.lemmas.Option.{slice_get_past, slice_get_read, slice_get-map}
use Rattle.romfs_reader.specs.Images.{HeldBytes}
use Rattle.node_reader.proofs.layer.view_at.Goals as goal

pub returns : goal.returns
returns g c =
    let at = c.in_ok-get.ensures.lookup.3 in
    slice_get-map (λ (image : HeldBytes). image.bytes) c.args.images.now c.args.layer
    ∙ ap (option_map (λ (image : HeldBytes). image.bytes)) (slice_get_read _ _ _ _ refl at.0 (at.1 _)) ∙ ap Some (sym c.view.ensures)

pub returns-in_err-get : goal.returns-in_err-get
returns-in_err-get g c = rw c.from_residual.ensures (
    slice_get-map (λ (image : HeldBytes). image.bytes) c.args.images.now c.args.layer
    ∙ ap (option_map (λ (image : HeldBytes). image.bytes)) (slice_get_past _ _ c.in_err-get.ensures.lookup.3))
