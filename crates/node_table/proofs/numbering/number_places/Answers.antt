use Rattle.std.proofs.Common.{◌+◌, length, refl, ap, arith}
use Rattle.std.proofs.lemmas.List.{length-map}
use Rattle.std.proofs.lemmas.List.FromFn.{length-map-range_with_len}
use Rattle.node_table.specs.Numbering.{key_of}
use Rattle.node_table.proofs.Counting.{numbered_apart}
use Rattle.node_table.proofs.numbering.number_places.Goals as goal

pub returns-then-are_themselves : goal.returns-then-are_themselves
returns-then-are_themselves g c =
    let themselves = rw c.deref-2.ensures.value at c.if-are_themselves.ensures refl in
    numbered_apart c.args.visits.now c.in_ok-keys.keys.items c.in_ok-firsts.firsts.items c.in_ok-keys.ensures
    (rw c.deref.ensures.value at c.in_ok-firsts.ensures) themselves

pub invariant_of-result : goal.invariant_of-result
invariant_of-result g c =
    let visits = c.args.visits.now in
    omega (
      arith,
      length-map-range_with_len (λ k. k + 1) 0 (length visits),
      ap length c.in_ok-keys.ensures.are,
      length-map visits key_of,
      c.in_ok-keys.keys.ok.0,
      c.in_ok-keys.keys.small,
    )
