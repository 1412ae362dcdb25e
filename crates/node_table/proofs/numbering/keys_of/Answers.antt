use Rattle.std.proofs.Common.{◌∙◌, ◌<◌, length, ap, arith}
use Rattle.node_table.specs.Numbering.{place_key}
use Rattle.node_table.proofs.Counting.{keys_more}
use Rattle.node_table.proofs.numbering.keys_of.Goals as goal

pub loop-visit-preserved : goal.loop-visit-preserved
loop-visit-preserved g c =
    let lt : c.loop-visit.visit-index < length c.args.visits.now = omega arith in
    keys_more c.args.visits.now c.loop-visit.visit-index c.visit-item.result c.loop-visit.keys.items c.push.new.self.items
    c.place_key.result lt
    c.visit-item.is c.loop-visit.invariant (c.place_key.ensures.value ∙ ap (λ e. place_key e.place) c.value.ensures)
    (rw c.value.ensures at c.place_key.ensures.small) c.in_ok-push.ensures.items
