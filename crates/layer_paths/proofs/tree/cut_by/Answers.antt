use Rattle.std.proofs.Common.{rules, ◌≡◌, ◌<◌, true, false, length, arith, sym, Some, []}
use Rattle.layer_paths.specs.Marks.{cuts_below}
use Rattle.layer_paths.proofs.Cutting.{cut_here, cut_deeper, cut_nowhere}
use Rattle.layer_paths.proofs.tree.cut_by.Goals.{then-mark-via-then-mark, then-mark-via-else-mark+then-mark-2}
use Rattle.layer_paths.proofs.tree.cut_by.Goals as goal

pub returns-then-mark : goal.returns-then-mark
returns-then-mark g c =
    let lt : c.loop-name.name-index < length c.args.path.now = omega arith in
    let e : cuts_below (Some (g.T.Cuts.removed c.loop-name.here.now.value)) ≡ true = search rules in
    sym (cut_here g.T.Cuts.removed c.args.tree.now c.args.path.now c.loop-name.name-index c.loop-name.here.now
    (record { ref_ptr = (0, 0); now = [] }) lt c.loop-name.invariant e)

pub returns-in-None : goal.returns-in-None
returns-in-None g c =
    let lt : c.loop-name.name-index < length c.args.path.now = omega arith in
    let e : cuts_below (Some (g.T.Cuts.removed c.loop-name.here.now.value)) ≡ false = search rules in
    sym (cut_nowhere g.T.Cuts.removed c.args.tree.now c.args.path.now c.loop-name.name-index c.loop-name.here.now _ lt
    c.loop-name.invariant c.children.result.now c.children.ensures.below
    c.children.ensures.forest.names c.in-None.ensures e)

pub loop-name-preserved : goal.loop-name-preserved
loop-name-preserved g c =
    let lt : c.loop-name.name-index < length c.args.path.now = omega arith in
    let e : cuts_below (Some (g.T.Cuts.removed c.loop-name.here.now.value)) ≡ false = search rules in
    record {
      same = cut_deeper g.T.Cuts.removed c.args.tree.now c.args.path.now c.loop-name.name-index c.loop-name.here.now _
          lt c.loop-name.invariant c.children.result.now (Some c.in-Some.next.now) c.children.ensures.below
          c.children.ensures.forest.names c.in-Some.ensures e;
    }
