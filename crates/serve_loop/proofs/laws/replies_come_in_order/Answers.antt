use Rattle.serve_loop.proofs.Ends.{all_flushed}
use Rattle.serve_loop.proofs.laws.replies_come_in_order.Goals as goal

pub returns-clause-flushed : goal.returns-clause-flushed
returns-clause-flushed g c = λ by n turns t r messages rest run split. all_flushed by n turns t r messages rest run split
