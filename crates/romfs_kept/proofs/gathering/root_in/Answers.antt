use Rattle.std.proofs.Common.{ap, ◌+◌, arith}
use Rattle.romfs_kept.proofs.Walks.{front_near, root_none, root_some, root_short}
use Rattle.romfs_kept.proofs.gathering.root_in.Goals as goal

pub returns-then-size-clause-root : goal.returns-then-size-clause-root
returns-then-size-clause-root c = λ xs e h. root_short xs (omega arith)

pub returns-in-None-clause-root : goal.returns-in-None-clause-root
returns-in-None-clause-root c = λ xs e h. root_none xs (c.in-None.ensures.value xs e (front_near xs _ c.requires h))

pub returns-in-Some-clause-root : goal.returns-in-Some-clause-root
returns-in-Some-clause-root c = λ xs e h.
    root_some xs _ _ (c.in-Some.ensures.value xs e (front_near xs _ c.requires h)) (ap (λ n. 16 + n) c.padded.ensures.value)
