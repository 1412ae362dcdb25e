use Rattle.std.proofs.Common.{◌≡◌, ◌+◌, ◌*◌, ◌<◌, ◌≤◌, List, length, subst, arith}
use Rattle.romfs_format.specs.Part.{attribute_count, edge, AreTables}
use Rattle.romfs_rows.proofs.Tables.{edge_inside, edge_rises, edges_long}
use Rattle.romfs_rows.proofs.lists.Lists.piece.Goals as goal

pub overflow_add-number : goal.overflow_add-number
overflow_add-number c =
    let t = subst AreTables c.self.view_is c.self.invariant in
    let l = edges_long c.args.self.now t c.args.number (omega arith) in
    let told = c.self.told.0 in
    let e : length c.self.inside.bytes.now ≡ length c.args.self.now = cc in
    omega arith

pub slice_of-requires-clause-order : goal.slice_of-requires-clause-order
slice_of-requires-clause-order c =
    let t = subst AreTables c.self.view_is c.self.invariant in
    let r = edge_rises c.args.self.now t c.args.number c.requires in
    omega arith

pub slice_of-requires-clause-within : goal.slice_of-requires-clause-within
slice_of-requires-clause-within c =
    let t = subst AreTables c.self.view_is c.self.invariant in
    let l = edge_inside c.args.self.now t (c.args.number + 1) (let r = c.requires in omega arith) in
    let e : length c.self.inside.bytes.now ≡ length c.args.self.now = cc in
    omega arith
