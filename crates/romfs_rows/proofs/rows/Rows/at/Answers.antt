use Rattle.std.proofs.Common.{◌∙◌, ap, sym, ℕ, Option}
use Rattle.std.specs.Prelude.{slice_get}
use Rattle.std.specs.Option.{option_and_then}
use Rattle.romfs_rows.proofs.Search.{row_at_position}
use Rattle.romfs_rows.proofs.rows.Rows.at.Goals as goal

pub returns-in_err-position-clause-value : goal.returns-in_err-position-clause-value
returns-in_err-position-clause-value g c =
    c.from_residual.ensures ∙ sym (row_at_position c.args.self.now c.args.place
    ∙ ap (λ (at : Option ℕ). option_and_then (slice_get c.args.self.now) at) (sym c.in_err-position.ensures.value))

pub returns-clause-value : goal.returns-clause-value
returns-clause-value g c =
    c.get.ensures.value ∙ sym (row_at_position c.args.self.now c.args.place
    ∙ ap (λ (at : Option ℕ). option_and_then (slice_get c.args.self.now) at) (sym c.in_ok-position.ensures.value))
