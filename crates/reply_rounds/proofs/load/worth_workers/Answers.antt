use Rattle.std.proofs.Common.{arith}
use Rattle.reply_rounds.proofs.load.worth_workers.Goals as goal

pub overflow_mul-messages : goal.overflow_mul-messages
overflow_mul-messages g c = omega arith

pub overflow_add-time : goal.overflow_add-time
overflow_add-time g c = omega arith

pub overflow_add-room : goal.overflow_add-room
overflow_add-room g c = omega arith

pub overflow_add-time-in-loop-messages : goal.overflow_add-time-in-loop-messages
overflow_add-time-in-loop-messages g c = omega arith

pub overflow_add-room-in-loop-messages : goal.overflow_add-room-in-loop-messages
overflow_add-room-in-loop-messages g c = omega arith

pub overflow_add-messages : goal.overflow_add-messages
overflow_add-messages g c = omega arith

pub loop-messages-smaller : goal.loop-messages-smaller
loop-messages-smaller g c = omega arith

pub loop-messages-preserved : goal.loop-messages-preserved
loop-messages-preserved g c = record { few = omega arith; time = omega arith; room = omega arith }
