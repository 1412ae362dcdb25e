use Rattle.std.proofs.Common.{arith, refl, ◌<◌, inl, inr, length}
use Rattle.node_table.proofs.PlacesByKey.{none_filled, key_goes_on, key_begins, all_told}
use Rattle.node_table.proofs.firsts.firsts_of.Goals as goal
use Rattle.node_table.proofs.firsts.firsts_of.Goals.{then-i-eq0, then-i-eq0-via-then-i-eq0, then-i-eq0-via-else-i-eq0+then-keyed-group, else-i-eq0+else-keyed-group}

pub loop-i-init : goal.loop-i-init
loop-i-init g c = none_filled _ _ _ _ (rw c.deref-keyed-items.ensures.value c.in_ok-by_key.ensures) c.in_ok-firsts.ensures

pub loop-i-preserved : goal.loop-i-preserved
loop-i-preserved g c =
    let lt : c.loop-i.i < length c.deref-keyed-items.result.now = omega arith in
    elim c.if-i-eq0.branch [
      | then-i-eq0 w ↦ elim w.then-i-eq0.branch [
        | then-i-eq0-via-then-i-eq0 v ↦ key_begins _ _ _ _ _ c.loop-i.invariant lt _ _ w.group-is refl (inl (omega (arith, v.if-i-eq0)))
        | then-i-eq0-via-else-i-eq0+then-keyed-group v ↦ key_begins _ _ _ _ _ c.loop-i.invariant lt _ _ w.group-is refl
            (inr v.if-keyed-group.true)
      ]
      | else-i-eq0+else-keyed-group w ↦ rw w.group-is (key_goes_on _ _ _ _ _ c.loop-i.invariant lt _ refl (omega (arith, w.if-i-eq0))
          w.if-keyed-group.false)
    ]

pub returns : goal.returns
returns g c = all_told _ _ _ _ _ (omega arith) c.loop-i.invariant
