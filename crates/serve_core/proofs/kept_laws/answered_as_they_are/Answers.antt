use Rattle.serve_core.proofs.Answered.{told_alike, told_right, told_same, told_too, moved_alike}
use Rattle.serve_core.proofs.kept_laws.answered_as_they_are.Goals as goal

pub returns-clause-told : goal.returns-clause-told
returns-clause-told c = λ images gathered whole k s q bytes.
    (told_alike images gathered whole k s q bytes, told_too images gathered whole k s q bytes)

pub returns-clause-same : goal.returns-clause-same
returns-clause-same c = told_same

pub returns-clause-right : goal.returns-clause-right
returns-clause-right c = told_right

pub returns-clause-moved : goal.returns-clause-moved
returns-clause-moved c = moved_alike
