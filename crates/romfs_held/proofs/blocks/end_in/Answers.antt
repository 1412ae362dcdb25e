use Rattle.std.proofs.Common.{◌∙◌, sym}
use Rattle.romfs_held.proofs.Fronts.{ends_found, ends_nowhere, ends_behind}
use Rattle.romfs_held.proofs.blocks.end_in.Goals as goal

pub returns-then-is_some-clause-value : goal.returns-then-is_some-clause-value
returns-then-is_some-clause-value c = λ a at e f.
    ends_found a _ at _ e f _ c.name_field-field.ensures _ (sym c.is_some.ensures ∙ c.if-is_some.true) c.memchr-found.ensures

pub returns-then-field-min-clause-value : goal.returns-then-field-min-clause-value
returns-then-field-min-clause-value c = λ a at e f.
    ends_nowhere a _ at _ e f _ c.name_field-field.ensures _ (sym c.is_some.ensures ∙ c.if-is_some.false) c.memchr-found.ensures
    (c.if-field-min.true ∙ c.min.ensures)

pub returns-clause-value : goal.returns-clause-value
returns-clause-value c = λ a at e f.
    ends_behind a _ at _ e f _ c.name_field-field.ensures _ (sym c.is_some.ensures ∙ c.if-is_some.false) c.memchr-found.ensures
    (λ h. c.if-field-min.false (h ∙ sym c.min.ensures))
