use Rattle.std.proofs.Common.{ap, arith, length, length-drop}
use Rattle.romfs_rows.proofs.read.Trailer.slice.Goals as goal

pub overflow_add-self-inside : goal.overflow_add-self-inside
overflow_add-self-inside c =
    let v = ap length c.self.view_is in
    let d = length-drop c.self.inside.place c.self.inside.image.now in
    let i = c.self.invariant in
    omega (arith, i.0, i.1, i.2)

pub slice_at-requires : goal.slice_at-requires
slice_at-requires c =
    let v = ap length c.self.view_is in
    let d = length-drop c.self.inside.place c.self.inside.image.now in
    let i = c.self.invariant in
    omega (arith, i.0, i.1, i.2)
