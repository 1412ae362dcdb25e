use Rattle.std.proofs.Common.{◌∙◌, sym, ap, length, arith}
use Rattle.romfs_rows.proofs.OneList.{rises, list_long}
use Rattle.romfs_rows.proofs.file_xattrs.FileXattrs.len.Goals as goal

pub overflow_sub-result : goal.overflow_sub-result
overflow_sub-result c =
    omega (arith, c.first-first.ensures.value, c.first-end.ensures.value, rises _ _ c.self.invariant)

pub returns : goal.returns
returns c =
    omega (
      arith,
      c.first-first.ensures.value,
      c.first-end.ensures.value,
      list_long _ _ c.self.invariant,
      ap length c.self.view_is,
    )
