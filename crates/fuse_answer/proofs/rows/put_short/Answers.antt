use Rattle.fuse_answer.proofs.Writing.{padded_there}
use Rattle.fuse_answer.proofs.rows.put_short.Goals as goal

pub put_short_direntplus-requires-clause-padded : goal.put_short_direntplus-requires-clause-padded
put_short_direntplus-requires-clause-padded g c =
    padded_there c.args.rows.now c.args.index _ c.in-Some.padded.now c.row_at-entry.ensures.line c.in-Some.ensures

pub put_short_direntplus-requires-2-clause-padded : goal.put_short_direntplus-requires-2-clause-padded
put_short_direntplus-requires-2-clause-padded g c =
    padded_there c.args.rows.now c.args.index _ c.in-Some.padded.now c.line_at-ino.ensures c.in-Some.ensures
