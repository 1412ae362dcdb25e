use Rattle.std.proofs.Common.{rules, [], refl}
use Rattle.layer_tree.proofs.Clashing.{folders}
use Rattle.layer_tree.proofs.clashes.clashes_both_ways.Goals as goal

pub returns-then-are_apart-clause-hidden : goal.returns-then-are_apart-clause-hidden
returns-then-are_apart-clause-hidden g c =
    let apart = c.are_apart.ensures (search rules) in
    rw c.in_ok-none.ensures (record {
      uncut = refl;
      at = folders g.T.Cuts.removed c.args.high.now c.args.low.now c.children-2.result.now c.children.result.now [] [] _
          c.children-2.ensures.below c.children.ensures.below c.requires.high refl refl apart.high_files;
    })

pub returns-then-are_apart-clause-replaced : goal.returns-then-are_apart-clause-replaced
returns-then-are_apart-clause-replaced g c =
    let apart = c.are_apart.ensures (search rules) in
    rw c.in_ok-no_others.ensures (record {
      uncut = refl;
      at = folders g.T.Cuts.removed c.args.low.now c.args.high.now c.children.result.now c.children-2.result.now [] [] _
          c.children.ensures.below c.children-2.ensures.below c.requires.low refl refl apart.low_files;
    })

pub same-none : goal.same-none
same-none g c = refl

pub same-hidden : goal.same-hidden
same-hidden g c = refl
