use Rattle.std.proofs.Common.{◌∙◌, sym}
use Rattle.std.proofs.lemmas.Bool.{false≢true}
use Rattle.romfs_rules.proofs.header.Header.breaks_header_sum.Goals as goal

pub returns-then-asks_sums : goal.returns-then-asks_sums
returns-then-asks_sums c =
    let asked = c.self.invariant.asked in
    let asks = sym c.asks_sums.ensures ∙ c.if-asks_sums.true in
    rw (← c.self.view_is) (
      λ t. (asks, asked.reached, asked.slot.inside, c.is_sum_bad.ensures.0 t),
      λ x. c.is_sum_bad.ensures.1 x.3,
    )

pub returns-else-asks_sums : goal.returns-else-asks_sums
returns-else-asks_sums c = (
  λ t. absurd (false≢true (sym c.if-asks_sums.false ∙ t)),
  λ x. absurd (false≢true (sym c.if-asks_sums.false ∙ (c.asks_sums.ensures ∙ x.0))),
)
