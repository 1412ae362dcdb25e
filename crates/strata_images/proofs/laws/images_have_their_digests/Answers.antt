use Rattle.strata_images.proofs.ByDigest.{read_has, read_is_shown, reported_have_digests, shown_have_digests}
use Rattle.strata_images.proofs.laws.images_have_their_digests.Goals as goal

pub returns-clause-shown : goal.returns-clause-shown
returns-clause-shown c = shown_have_digests

pub returns-clause-reported : goal.returns-clause-reported
returns-clause-reported c = reported_have_digests

pub returns-clause-read : goal.returns-clause-read
returns-clause-read c = read_is_shown

pub returns-clause-met : goal.returns-clause-met
returns-clause-met c = read_has
