use Rattle.std.proofs.Common.{◌≡◌, replicate, None}
use Rattle.strata_words.proofs.digests.no_digests.Lts.Given.{Live-loop-image}

-- none for each image so far
abbrev pub invariant-loop-image : Live-loop-image → Type 0
invariant-loop-image l = l.digests.items ≡ replicate l._image None
