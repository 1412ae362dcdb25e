use Rattle.std.proofs.Common.{ap, sym, subst, List, arith, rules}
use Rattle.std.specs.List.Sorted.{IsNonDecreasingBy, IsPermutation}
use Rattle.std.proofs.lemmas.List.Sorted.{IsNonDecreasingBy-from_sort_by_key}
use Rattle.std.proofs.lemmas.Result.{IfOk-weaker}
use Rattle.reply_model.specs.declared.moves.Move.{Move}
use Rattle.reply_model.specs.Balances.{weight}
use Rattle.reply_rounds.proofs.Summing.{sums_permuted, weight_permuted}
use Rattle.reply_rounds.proofs.by_node.sums.Goals as goal

pub sum_sorted-requires-clause-sorted : goal.sum_sorted-requires-clause-sorted
sum_sorted-requires-clause-sorted g c =
    let up = IsNonDecreasingBy-from_sort_by_key (λ (m : Move). m.node) _ c.sort_unstable_by_key.ensures.sorted (λ a r q k. search rules) in
    subst (λ (xs : List Move). IsNonDecreasingBy (λ (m : Move). m.node) xs) (sym c.deref.ensures.value) up

pub sum_sorted-requires-clause-light : goal.sum_sorted-requires-clause-light
sum_sorted-requires-clause-light g c =
    let light = weight_permuted _ _ c.sort_unstable_by_key.ensures.permutation in
    let same = ap weight c.deref.ensures.value in
    omega arith

pub returns-clause-sums : goal.returns-clause-sums
returns-clause-sums g c =
    let same = subst (λ (ys : List Move). IsPermutation c.args.moves.items ys) (sym c.deref.ensures.value)
    c.sort_unstable_by_key.ensures.permutation in
    IfOk-weaker c.sum_sorted.result _ _ (λ sums are. sums_permuted c.args.moves.items c.deref.result.now sums.items same are)
    c.sum_sorted.ensures.sums

pub returns-clause-light : goal.returns-clause-light
returns-clause-light g c =
    let light = weight_permuted _ _ c.sort_unstable_by_key.ensures.permutation in
    let same = ap weight c.deref.ensures.value in
    IfOk-weaker c.sum_sorted.result _ _ (λ sums are. (let less = are in omega arith)) c.sum_sorted.ensures.light
