use Rattle.strata_words.proofs.Named.{AreSoFar}
use Rattle.strata_words.proofs.digests.digests_named.Given as goal

-- what the texts so far say
abbrev pub invariant-loop-text : goal.invariant-loop-text
invariant-loop-text l = AreSoFar l.fn.given l.text-index l.digests.items
