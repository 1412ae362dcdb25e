use Rattle.serve_core.proofs.Streams.{replied_right, replied_same, served_right, served_same}
use Rattle.serve_core.proofs.kept_laws.streams_are_served_as_over_them.Goals as goal

pub returns-clause-told : goal.returns-clause-told
returns-clause-told g c = replied_same

pub returns-clause-served : goal.returns-clause-served
returns-clause-served g c = λ images gathered whole k sources kept first t done.
    served_same images gathered whole k sources kept first t done

pub returns-clause-right : goal.returns-clause-right
returns-clause-right g c = replied_right

pub returns-clause-served_right : goal.returns-clause-served_right
returns-clause-served_right g c = λ images gathered whole k sources shown first t done.
    served_right images gathered whole k sources shown first t done
