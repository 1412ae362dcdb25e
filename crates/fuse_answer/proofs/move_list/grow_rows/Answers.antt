use Rattle.std.proofs.Common.{◌≡◌, ◌∙◌, ◌+◌, ◌<◌, ◌++◌, List, ap, length, arith}
use Rattle.std.proofs.lemmas.Result.{err_from_is_err_and}
use Rattle.reply_model.specs.declared.moves.Move.{Move}
use Rattle.fuse_answer.specs.Listings.{row_given, until_of}
use Rattle.fuse_answer.proofs.Fitting.{until_found}
use Rattle.fuse_answer.proofs.Moving.{all_given, given, given_less, none_given, row_appended, stopped}
use Rattle.fuse_answer.proofs.move_list.grow_rows.Goals as goal

pub loop-index-init : goal.loop-index-init
loop-index-init g c = record { so_far = none_given c.args.rows.now c.args.into.now.items; room = omega arith; small = λ s. s }

pub loop-index-preserved : goal.loop-index-preserved
loop-index-preserved g c =
    let was = c.loop-index.invariant in
    let within = c.fit-until.ensures.within in
    let there : c.loop-index.index < 2 + length c.args.rows.now.children.now = omega arith in
    let room = was.room in
    let grown = c.in_ok-put_given.ensures.moves.3 in
    record {
      so_far = row_appended c.args.rows.now c.loop-index.index c.args.into.now.items c.loop-index.into.items c.put_given.new.into.items
          c.loop-index.auto.index there was.so_far c.in_ok-put_given.ensures.moves.0;
      room = omega arith;
      small = λ s. c.in_ok-put_given.ensures.small (was.small s);
    }

pub returns-in_err-put_given-clause-moves : goal.returns-in_err-put_given-clause-moves
returns-in_err-put_given-clause-moves g c =
    let failed = err_from_is_err_and c.from_residual.result c.from_residual.ensures.1 in
    let l = c.args.rows.now in
    let index = c.loop-index.index in
    let was = c.loop-index.invariant in
    let put = c.in_err-put_given.ensures.moves in
    let found = until_found l c.fit-until.result.0 c.fit-until.result.1 c.fit-until.ensures in
    let within = c.fit-until.ensures.within in
    rw failed.1 (stopped failed.0 c.args.into.now c.loop-index.into c.put_given.new.into (given l index) (row_given l index)
    (given l (until_of l)) was.so_far put.1 put.2 was.room put.3
    (given_less l index c.loop-index.auto.index (omega arith) (omega arith)))

pub returns-clause-small : goal.returns-clause-small
returns-clause-small g c = c.loop-index.invariant.small

pub returns-clause-moves : goal.returns-clause-moves
returns-clause-moves g c =
    let found = until_found c.args.rows.now c.fit-until.result.0 c.fit-until.result.1 c.fit-until.ensures in
    let last : c.loop-index.index ≡ until_of c.args.rows.now = omega arith in (
      c.loop-index.invariant.so_far
          ∙ ap (λ (ms : List Move). c.args.into.now.items ++ ms) (all_given c.args.rows.now c.loop-index.index last),
      tt,
      tt,
      c.loop-index.invariant.room,
    )
