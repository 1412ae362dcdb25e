use Rattle.fuse_wire.proofs.Telling.{held_told, shown_told, whole_told}
use Rattle.fuse_wire.proofs.laws.shown_data_are_told.Goals as goal

pub returns-clause-shown : goal.returns-clause-shown
returns-clause-shown c = λ reading xs unique defined bytes shows is told. shown_told reading xs unique defined bytes shows is told

pub returns-clause-held : goal.returns-clause-held
returns-clause-held c = held_told

pub returns-clause-whole : goal.returns-clause-whole
returns-clause-whole c = λ reading xs unique defined bytes shows whole is told.
    whole_told reading xs unique defined bytes shows whole is told
