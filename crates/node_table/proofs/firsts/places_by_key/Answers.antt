use Rattle.std.proofs.Common.{◌∙◌, sym, subst, arith, refl, false, ◌≡◌, ◌<◌, length}
use Rattle.std.proofs.lemmas.List.{get_or_default}
use Rattle.node_table.proofs.PlacesByKey.{Collecting, key_collected, key_passed_over, sorted_by_key}
use Rattle.node_table.proofs.firsts.places_by_key.Goals as goal

pub loop-at-preserved-then-index : goal.loop-at-preserved-then-index
loop-at-preserved-then-index g c =
    let keys = c.args.keys.now in
    let once = c.in_ok-once.once.items in
    let at = c.loop-at.at in
    let lt : at < length keys = omega arith in
    let level = c.in_ok-once.ensures.level in
    let told = get_or_default once at false c.index.result.now (omega arith) ∙ sym c.index.ensures ∙ c.if-index.true in
    key_passed_over keys _ at c.loop-at.invariant (c.in_ok-once.ensures.each at lt told)

pub loop-at-preserved : goal.loop-at-preserved
loop-at-preserved g c = key_collected _ _ _ _ _ refl c.in_ok-push.ensures.items c.loop-at.invariant

pub returns : goal.returns
returns g c =
    let n : c.loop-at.at ≡ length c.args.keys.now = omega arith in
    sorted_by_key c.args.keys.now c.loop-at.by_key.items c.sort_unstable.new.self.items
    (subst (Collecting c.args.keys.now c.loop-at.by_key.items) n c.loop-at.invariant) c.sort_unstable.ensures.permutation
    c.sort_unstable.ensures.sorted
