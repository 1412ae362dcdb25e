use Rattle.std.proofs.Common.{subst, ◌+◌, ◌<◌, ◌≤◌, length}
use Rattle.romfs_format.proofs.Text.{within_none, within_then, within_else}
use Rattle.romfs_format.proofs.read.text_at.Goals as goal

pub returns-in-None-clause-value : goal.returns-in-None-clause-value
returns-in-None-clause-value c = within_none c.args.image.now _ c.args.at c.name_field.ensures c.in-None.ensures

pub returns-then-end-image-clause-value : goal.returns-then-end-image-clause-value
returns-then-end-image-clause-value c = within_then c.args.image.now _ c.args.at c.name_field.ensures _ c.in-Some.ensures
    (subst (λ n. c.args.at + n ≤ length c.args.image.now) c.padded.ensures.value c.if-end-image.true)

pub returns-else-end-image-clause-value : goal.returns-else-end-image-clause-value
returns-else-end-image-clause-value c = within_else c.args.image.now _ c.args.at c.name_field.ensures _ c.in-Some.ensures
    (subst (λ n. length c.args.image.now < c.args.at + n) c.padded.ensures.value c.if-end-image.false)
