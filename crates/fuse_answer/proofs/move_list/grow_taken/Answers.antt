use Rattle.std.proofs.Common.{ap, length, arith, [], ◌∷◌}
use Rattle.std.proofs.lemmas.Result.{err_from_is_err_and}
use Rattle.fuse_wire.specs.Reads.{items_of}
use Rattle.fuse_answer.specs.Answers.{taken_back}
use Rattle.fuse_answer.proofs.Moving.{none_appended, one_appended, stopped, taken_less}
use Rattle.fuse_answer.proofs.move_list.grow_taken.Goals as goal

pub loop-taken-init : goal.loop-taken-init
loop-taken-init g c =
    record {
      count = omega arith;
      taken = none_appended c.args.table.now (items_of c.args.items) c.args.into.now.items;
      room = omega arith;
      small = λ s. s;
    }

pub loop-taken-preserved : goal.loop-taken-preserved
loop-taken-preserved g c =
    let was = c.loop-taken.invariant in
    let len = ap length c.in-Some.ensures in
    let count = was.count in
    let room = was.room in
    let grown = c.in_ok-put_taken.ensures.moves.3 in
    record {
      count = omega arith;
      taken = one_appended c.args.table.now (items_of c.args.items) (items_of c.loop-taken.rest) (items_of c.in-Some.later) c.in-Some.forget
          c.args.into.now.items c.loop-taken.into.items c.put_taken.new.into.items c.in-Some.ensures was.taken
          c.in_ok-put_taken.ensures.moves.0;
      room = omega arith;
      small = λ s. c.in_ok-put_taken.ensures.small (was.small s);
    }

pub returns-in_err-put_taken-clause-moves : goal.returns-in_err-put_taken-clause-moves
returns-in_err-put_taken-clause-moves g c =
    let failed = err_from_is_err_and c.from_residual.result c.from_residual.ensures.1 in
    let stack = c.args.table.now in
    let was = c.loop-taken.invariant in
    let done = was.taken.done in
    let put = c.in_err-put_taken.ensures.moves in
    rw failed.1 (stopped failed.0 c.args.into.now c.loop-taken.into c.put_taken.new.into (taken_back stack done)
    (taken_back stack (c.in-Some.forget ∷ [])) (taken_back stack (items_of c.args.items)) was.taken.moves put.1 put.2 was.room put.3
    (taken_less stack done c.in-Some.forget (items_of c.in-Some.later) (items_of c.args.items) (items_of c.loop-taken.rest)
    c.in-Some.ensures was.taken.split))
