use Rattle.serve_core.proofs.Headline.{as_replied_from, right_replies}
use Rattle.serve_core.proofs.laws.replies_are_those_defined.Goals as goal

pub returns-clause-read : goal.returns-clause-read
returns-clause-read c = as_replied_from

pub returns-clause-shown : goal.returns-clause-shown
returns-clause-shown c = right_replies
