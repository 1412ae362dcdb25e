use Rattle.std.proofs.Common.{◌+◌, arith}
use Rattle.fuse_answer.proofs.Moving.{entry_added, none_added, room_for_row}
use Rattle.fuse_answer.proofs.balances.add_row.Goals as goal

pub add_entry-requires-clause-within : goal.add_entry-requires-clause-within
add_entry-requires-clause-within g c =
    room_for_row c.args.rows.now c.args.index c.args.balances.now (omega arith) c.requires.within

pub returns-then-rows : goal.returns-then-rows
returns-then-rows g c = entry_added c.args.rows.now c.args.index c.args.balances.now c.add_entry.new.balances c.requires.from
    c.requires.there.0 c.if-rows.true c.requires.within c.add_entry.ensures

pub returns-else-rows : goal.returns-else-rows
returns-else-rows g c = none_added c.args.rows.now c.args.index (c.args.index + 1) c.args.balances.now (omega arith) c.if-rows.false
    c.requires.within
