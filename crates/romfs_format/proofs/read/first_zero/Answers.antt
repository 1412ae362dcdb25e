use Rattle.std.proofs.Common.{◌∙◌, sym, arith}
use Rattle.romfs_format.proofs.Text.{ended_first, ended_near}
use Rattle.romfs_format.proofs.read.first_zero.Goals as goal

pub returns-then-is_some-clause-value : goal.returns-then-is_some-clause-value
returns-then-is_some-clause-value c =
    (ended_near c.args.field.now 32 c.memchr-near.result (omega arith) (sym c.is_some.ensures ∙ c.if-is_some.true) c.memchr-near.ensures).0

pub returns-then-is_some-clause-within : goal.returns-then-is_some-clause-within
returns-then-is_some-clause-within c =
    (ended_near c.args.field.now 32 c.memchr-near.result (omega arith) (sym c.is_some.ensures ∙ c.if-is_some.true) c.memchr-near.ensures).1

pub returns-clause-value : goal.returns-clause-value
returns-clause-value c = ended_first c.args.field.now c.memchr.result c.memchr.ensures
