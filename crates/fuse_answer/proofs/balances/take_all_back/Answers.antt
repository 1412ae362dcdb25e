use Rattle.std.proofs.Common.{◌<◌, ◌^◌, arith, rules}
use Rattle.fuse_wire.specs.Reads.{items_of}
use Rattle.fuse_answer.proofs.Moving.{all_taken, none_taken, one_taken, room_left}
use Rattle.fuse_answer.proofs.balances.take_all_back.Goals as goal

pub loop-taken-init : goal.loop-taken-init
loop-taken-init g c = none_taken c.args.table.now (items_of c.args.items) c.args.balances.now c.requires

pub take_back-requires : goal.take_back-requires
take_back-requires g c =
    room_left c.loop-taken._taken c.len-taken-end.result c.loop-taken.balances c.loop-taken-test.true c.len-taken-end.ensures.few
    c.loop-taken.invariant.within

pub loop-taken-preserved : goal.loop-taken-preserved
loop-taken-preserved g c =
    let small : c.in-Some.forget.nlookup < 2 ^ 64 = search rules in
    one_taken c.args.table.now (items_of c.args.items) (items_of c.loop-taken.rest) (items_of c.in-Some.later) c.in-Some.forget
    c.loop-taken._taken
    c.args.balances.now c.loop-taken.balances c.take_back.new.balances small c.in-Some.ensures c.loop-taken.invariant c.take_back.ensures

pub returns : goal.returns
returns g c =
    let end = c.len-taken-end.ensures.len in
    all_taken c.args.table.now (items_of c.args.items) (items_of c.loop-taken.rest) c.loop-taken._taken c.args.balances.now
    c.loop-taken.balances
    (omega arith) c.loop-taken.invariant
