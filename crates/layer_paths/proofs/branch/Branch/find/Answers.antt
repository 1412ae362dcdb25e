use Rattle.std.proofs.Common.{sym, ap, ◌≡◌, ◌<◌, length, arith, Some, None}
use Rattle.layer_paths.specs.Rows.{Subtree, spread}
use Rattle.layer_paths.proofs.Under.{descend}
use Rattle.layer_paths.proofs.branch.Branch.find.Goals as goal

pub returns-in-None : goal.returns-in-None
returns-in-None g c =
    let lt : c.loop-name.name-index < length c.args.path.now = omega arith in
    let below : c.loop-name.here.now.below ≡ spread c.deref.result.now = rw c.deref.ensures.value
    (sym (ap (λ (s : Subtree g.row.T.Denot). s.below) c.here.view_is)) in
    record {
      at = descend _ c.args.path.now c.loop-name.name-index c.loop-name.here.now c.deref.result.now
          None _ lt c.loop-name.invariant below (rw c.deref.ensures.value c.here.invariant.names)
          c.in-None.ensures;
    }

pub loop-name-preserved : goal.loop-name-preserved
loop-name-preserved g c =
    let lt : c.loop-name.name-index < length c.args.path.now = omega arith in
    let below : c.loop-name.here.now.below ≡ spread c.deref.result.now = rw c.deref.ensures.value
    (sym (ap (λ (s : Subtree g.row.T.Denot). s.below) c.here.view_is)) in
    record {
      at = descend _ c.args.path.now c.loop-name.name-index c.loop-name.here.now c.deref.result.now
          (Some c.in-Some.next.now) _ lt c.loop-name.invariant below
          (rw c.deref.ensures.value c.here.invariant.names) c.in-Some.ensures;
    }
