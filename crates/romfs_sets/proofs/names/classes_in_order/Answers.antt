use Rattle.std.proofs.Common.{◌∙◌, ◌-◌, sym, ap, ◌<◌, length, arith}
use Rattle.std.specs.Vec.{vec_items}
use Rattle.romfs_sets.proofs.Classing.{taken, begun, all_classed, number_fits}
use Rattle.romfs_sets.proofs.names.classes_in_order.Goals as goal
use Rattle.romfs_sets.proofs.names.classes_in_order.Goals.{then-is_eq, else-is_eq}

pub index-requires-then-is_eq : goal.index-requires-then-is_eq
index-requires-then-is_eq g c =
    let f = number_fits c.requires.named c.loop-i.invariant.classing (c.loop-i.i - 1) c.index.result.now (omega arith) c.index.ensures in
    omega (arith, c.loop-i.classes.ok.0)

pub index_mut-requires : goal.index_mut-requires
index_mut-requires g c =
    let f = number_fits c.requires.named c.loop-i.invariant.classing c.loop-i.i c.index-in-loop-i.result.now
    (omega arith) c.index-in-loop-i.ensures in
    omega (arith, c.loop-i.classes.ok.0)

pub loop-i-preserved : goal.loop-i-preserved
loop-i-preserved g c = record {
  classing = λ name by.
      let hs = c.args.named.now.items in
      let i = c.loop-i.i in
      let from : 0 < i = omega arith in
      let lt : i < length hs = omega arith in
      let x = c.index.result.now in
      let y = c.index-in-loop-i.result.now in
      let was = c.loop-i.classes.items in
      let w = c.loop-i.invariant.classing name by in
      let stands = c.order.ensures in
      elim c.if-is_eq.branch [
        | then-is_eq t ↦
            taken name c.args.count hs by was i w from lt
            x y c.index.ensures c.index-in-loop-i.ensures c.order.result stands (sym c.is_eq.ensures ∙ t.if-is_eq.true)
            t.index-then-is_eq.result.now t.index-then-is_eq.ensures c.if-is_eq.classes.items (ap vec_items t.classes-is)
        | else-is_eq t ↦
            rw t.classes-is (begun name c.args.count hs by was i w from lt
            x y c.index.ensures c.index-in-loop-i.ensures c.order.result stands (sym c.is_eq.ensures ∙ t.if-is_eq.false))
      ];
}

pub returns : goal.returns
returns g c = λ name by.
    all_classed name c.args.count c.args.named.now.items by c.loop-i.classes.items c.loop-i.i (omega arith)
    (c.loop-i.invariant.classing name by)
