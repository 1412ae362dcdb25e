use Rattle.std.proofs.Common.{rules, ◌≤◌, length, arith}
use Rattle.std.specs.Fmt.{decimal}
use Rattle.std.proofs.lemmas.Fmt.{length-decimal-le}
use Rattle.node_list.proofs.fields.write_number.Goals as goal

pub write_digits-requires : goal.write_digits-requires
write_digits-requires c =
    let l : length (decimal c.args.number) ≤ 20 = search (rules, length-decimal-le 20) in (
      omega (arith, l, c.write_byte-space.ensures.start, c.requires.some),
      omega (arith, c.write_byte-space.ensures.start, c.requires.within, c.write_byte-space.auto.bytes),
    )

pub returns-clause-start : goal.returns-clause-start
returns-clause-start c =
    let l : length (decimal c.args.number) ≤ 20 = search (rules, length-decimal-le 20) in
    omega (arith, l, c.write_byte-space.ensures.start, c.write_digits.ensures.start)
