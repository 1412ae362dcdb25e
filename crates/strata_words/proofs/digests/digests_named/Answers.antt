use Rattle.std.specs.Borrow.{Bor}
use Rattle.std.proofs.Common.{◌∙◌, sym, inr, [], arith}
use Rattle.clap.specs.Walk.{Text}
use Rattle.strata_words.proofs.Named.{goes_on, not_named}
use Rattle.strata_words.proofs.digests.digests_named.Goals as goal

-- the element after the end of a list of texts
abbrev nothing : Bor Text
nothing = record { ref_ptr = (0, 0); now = [] }

pub returns-in-None-clause-err : goal.returns-in-None-clause-err
returns-in-None-clause-err c =
    inr (not_named c.args.given.now c.loop-text.text-index nothing (omega arith) (sym c.named_in.ensures ∙ c.in-None.is))

pub loop-text-preserved : goal.loop-text-preserved
loop-text-preserved c = goes_on c.args.given.now c.loop-text.text-index nothing c.in-Some.named c.loop-text.digests.items
    c.push.new.self.items (omega arith) (sym c.named_in.ensures ∙ c.in-Some.is) c.loop-text.invariant c.in_ok-push-in-Some.ensures.items
