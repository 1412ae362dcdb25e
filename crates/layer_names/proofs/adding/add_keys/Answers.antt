use Rattle.std.proofs.Common.{◌∙◌, sym, ap, subst, ◌≤◌, ℕ, List, length, drop}
use Rattle.layer_names.specs.Keys.{key, AreBytes}
use Rattle.layer_names.proofs.Added.{goes_on, long_here}
use Rattle.layer_names.proofs.adding.add_keys.Goals as goal

pub key_past-requires : goal.key_past-requires
key_past-requires g c =
    subst (λ (x : List ℕ). c.shared_by_all-shared.result ≤ length x) (sym c.name.ensures)
    (long_here g.T.HasName.name c.shared_by_all-shared.result c.args.rows.now c.loop-row.row-index
    c.row-item.result c.loop-row-test.true c.row-item.is c.shared_by_all-shared.ensures)

pub loop-row-preserved : goal.loop-row-preserved
loop-row-preserved g c =
    goes_on g.T.HasName.name c.shared_by_all-shared.result c.args.rows.now c.args.keys.now.items
    c.loop-row.keys.items c.push.new.self.items c.loop-row.row-index c.row-item.result c.key_past.result
    c.loop-row-test.true c.row-item.is (subst AreBytes c.name.ensures c.key_past.ensures.bytes)
    (c.key_past.ensures.value ∙ ap (λ (x : List ℕ). key 8 (drop c.shared_by_all-shared.result x))
    c.name.ensures) c.in_ok-push.ensures.items c.loop-row.invariant
