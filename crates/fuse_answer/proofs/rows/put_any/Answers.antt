use Rattle.fuse_answer.proofs.Writing.{short_name}
use Rattle.fuse_answer.proofs.rows.put_any.Goals as goal

pub put_direntplus-requires : goal.put_direntplus-requires
put_direntplus-requires g c =
    short_name c.args.table.now c.args.rows.now c.args.index _ c.row_at-entry.ensures.line c.requires.short

pub put_dirent-requires : goal.put_dirent-requires
put_dirent-requires g c =
    short_name c.args.table.now c.args.rows.now c.args.index _ c.row_at-entry.ensures.line c.requires.short
