use Rattle.std.proofs.Common.{inl, inr}
use Rattle.serve_core.specs.Headline.{call}
use Rattle.serve_core.proofs.Headline.{not_begun}
use Rattle.stack_prepare.specs.Layers.{contents_of}
use Rattle.serve_core.proofs.serving.serve_as.Goals as goal

pub returns-in_err-table : goal.returns-in_err-table
returns-in_err-table g c =
    inr (not_begun (call c.args.profile (contents_of c.args.images) c.args.terms.now.first c.args.terms.now.turns)
    c.from_residual.result c.in_err-table.field-0.0 _ c.from_residual.ensures.1 c.in_err-table.ensures.err)

pub returns : goal.returns
returns g c = inl (record { stack = _; stacked = c.in_ok-table.ensures.ok; runs = c.run.ensures })
