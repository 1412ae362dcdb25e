use Rattle.std.proofs.Common.{◌≡◌, ◌<◌, List, unsigned_abs, pos, take, subst, ap, arith, take_all, sym, ◌∙◌, get_or}
use Rattle.std.specs.Vec.{vec_items}
use Rattle.reply_model.specs.declared.moves.Move.{Move}
use Rattle.reply_rounds.specs.Sums.{PutsSum}
use Rattle.reply_model.proofs.Sums.{nothing, weight_within}
use Rattle.reply_rounds.proofs.Summing.{AreSummed, all_summed, move_added, next_begun, fits_both, sums_light}
use Rattle.reply_rounds.proofs.by_node.sum_sorted.Goals as goal
use Rattle.reply_rounds.proofs.by_node.sum_sorted.Goals.{then-m-sum+in_ok-put, else-m-sum}

pub plus-requires : goal.plus-requires
plus-requires g c =
    let xs = c.args.moves.now in
    let i = c.loop-m.m-index in
    let within = weight_within xs i c.loop-m-test.true in
    let was = c.loop-m.invariant.summed.light in
    let light = c.requires.light in
    fits_both c.if-m-sum.sum.amount (get_or xs i nothing).amount (elim c.if-m-sum.branch [
      | then-m-sum+in_ok-put w ↦ (let zero = ap (λ (m : Move). unsigned_abs m.amount) w.sum-is in omega arith)
      | else-m-sum w ↦ (let same = ap (λ (m : Move). unsigned_abs m.amount) w.sum-is in omega arith)
    ])

pub loop-m-preserved : goal.loop-m-preserved
loop-m-preserved g c =
    let xs = c.args.moves.now in
    let i = c.loop-m.m-index in
    let there = c.loop-m-test.true in
    let was = c.loop-m.invariant in
    elim c.if-m-sum.branch [
      | then-m-sum+in_ok-put w ↦
          (let own : c.if-m-sum.sum.node ≡ (get_or xs i nothing).node = ap (λ (m : Move). m.node) w.sum-is in
          let zero : c.if-m-sum.sum.amount ≡ pos 0 = ap (λ (m : Move). m.amount) w.sum-is in
          let below = was.above i (omega arith) there in
          let other = w.if-m-sum.true in
          let higher : c.loop-m.sum.node < c.if-m-sum.sum.node = omega arith in
          let put : PutsSum c.loop-m.sums.items c.if-m-sum.sums.items c.loop-m.sum = subst
          (λ (xs : List Move). PutsSum c.loop-m.sums.items xs c.loop-m.sum) (sym (ap vec_items w.sums-is))
          w.in_ok-put.ensures in
          let begun = next_begun (take i xs) c.loop-m.sums.items c.if-m-sum.sums.items c.loop-m.sum c.if-m-sum.sum was.summed put higher
          zero in
          record {
            summed = move_added xs c.if-m-sum.sums.items i c.if-m-sum.sum c.plus.result there c.requires.light begun
                (sym own) c.plus.ensures;
            above = λ k le lt. (let s = c.requires.sorted i k nothing (omega arith) lt in omega arith);
          })
      | else-m-sum w ↦
          (let own : c.if-m-sum.sum.node ≡ c.loop-m.sum.node = ap (λ (m : Move). m.node) w.sum-is in
          let same = w.if-m-sum.false in
          let summed = subst (λ (s : Move). AreSummed (take i xs) c.if-m-sum.sums.items s) (sym w.sum-is)
          (subst (λ (ys : List Move). AreSummed (take i xs) ys c.loop-m.sum) (sym (ap vec_items w.sums-is))
          was.summed) in
          record {
            summed = move_added xs c.if-m-sum.sums.items i c.if-m-sum.sum c.plus.result there c.requires.light summed (same
                ∙ sym own) c.plus.ensures;
            above = λ k le lt. (let s = was.above k (omega arith) lt in omega arith);
          })
    ]

pub returns : goal.returns
returns g c =
    let n = c.loop-m.m-index in
    let xs = c.args.moves.now in
    let all : take n xs ≡ xs = take_all n xs (omega arith) in
    let summed : AreSummed xs c.loop-m.sums.items c.loop-m.sum =
    subst (λ ms. AreSummed ms c.loop-m.sums.items c.loop-m.sum) all c.loop-m.invariant.summed in
    record {
      sums = all_summed xs c.loop-m.sums.items c.put-2.new.sums.items c.loop-m.sum summed c.in_ok-put-2.ensures;
      light = sums_light xs c.loop-m.sums.items c.put-2.new.sums.items c.loop-m.sum summed c.in_ok-put-2.ensures;
    }
