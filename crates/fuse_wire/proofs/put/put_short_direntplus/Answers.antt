use Rattle.std.proofs.Common.{◌∙◌, sym, ap, inl, length, arith, length-take-le}
use Rattle.std.specs.Option.{option_copied}
use Rattle.fuse_wire.specs.Appends.{Filled}
use Rattle.fuse_wire.proofs.Sizes.{length-direntplus}
use Rattle.fuse_wire.proofs.put.put_short_direntplus.Goals as goal

pub returns-then-most-out-clause-too_much : goal.returns-then-most-out-clause-too_much
returns-then-most-out-clause-too_much g c =
    let row = c.args.row.now in
    let its = length-direntplus (option_copied c.args.entry) row.ino row.off row.file_type row.name.now in
    let inside = c.out.inside in
    let stand = sym (ap (λ (r : Filled). length r.items) c.out.view_is) ∙ length-take-le inside.len inside.bytes.items c.out.invariant in
    λ _. inl (omega (arith, its, stand))
