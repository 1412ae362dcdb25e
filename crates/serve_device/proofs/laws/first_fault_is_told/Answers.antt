use Rattle.serve_device.proofs.Order.{told_first, told_of_one}
use Rattle.serve_device.proofs.laws.first_fault_is_told.Goals as goal

pub returns-clause-first : goal.returns-clause-first
returns-clause-first g c = λ seats. told_first seats

pub returns-clause-one : goal.returns-clause-one
returns-clause-one g c = λ seats. told_of_one seats
