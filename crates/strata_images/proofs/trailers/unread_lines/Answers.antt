use Rattle.std.proofs.Common.{◌≡◌, ◌∙◌, sym, subst, map, string_bytes, IfOk, [], if◌then◌else◌}
use Rattle.romfs_files.specs.Opening.{loaded_bytes}
use Rattle.strata_images.specs.Texts.{trailer_lines}
use Rattle.strata_images.proofs.trailers.unread_lines.Goals as goal

pub returns : goal.returns
returns g c =
    subst (λ asked. IfOk c.trailer_lines.result (λ lines.
    string_bytes lines ≡ (if asked then [] else trailer_lines (map loaded_bytes c.args.images.now))))
    (sym c.if-asks_attributes.false ∙ c.asks_attributes.ensures) c.trailer_lines.ensures
