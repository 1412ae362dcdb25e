use Rattle.std.proofs.Common.{◌∙◌, ap, min, arith}
use Rattle.romfs_kept.proofs.Walks.{reached}
use Rattle.romfs_kept.proofs.gathering.begin.Goals as goal

pub returns-clause-source : goal.returns-clause-source
returns-clause-source g c = rw (c.cut.ensures, c.in_ok-read.ensures.same) c.new-reader.ensures.source

pub returns-clause-reach : goal.returns-clause-reach
returns-clause-reach g c =
    rw c.cut.ensures
    (reached _ c.min-whole.result c.word.result _ c.read.new.room c.size.result c.size.ensures.size
    (c.min-whole.ensures ∙ ap (λ n. min c.size.result n) c.from.ensures)
    (rw (c.in_ok-read.ensures.same, c.new-reader.ensures.source, c.new-reader.ensures.size) at c.in_ok-read.ensures.room)
    (omega arith) c.word.ensures c.least.ensures.small
    (c.min.ensures ∙ ap (λ n. min c.min-whole.result n) c.least.ensures.value))
