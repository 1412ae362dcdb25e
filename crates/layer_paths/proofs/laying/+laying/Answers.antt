use Rattle.std.proofs.Common.{rules, ◌≡◌, ◌∙◌, sym, ap, List, ◌++◌, length, refl, arith}
use Rattle.std.proofs.lemmas.Bool.{eqb-true}
use Rattle.std.proofs.lemmas.List.{nil_from_length}
use Rattle.std.specs.declared.cmp.Ordering.TheVariants.{Less, Equal, Greater}
use Rattle.layer_paths.specs.Rows.{Subtree, name_cmp, spread}
use Rattle.layer_paths.proofs.Merging.{branch_laid, are_laid, no_lows, no_highs, merging_begun, low_first, high_first, both_first, below_measure, left_measure, lows_left, highs_left, low_less, high_less, both_less, shown, some_shown, nothing_shown}
use Rattle.layer_paths.proofs.laying.+laying.Goals as goal
use Rattle.layer_paths.proofs.laying.+laying.Goals.{merge-in_default, merge-in_default-2}

pub cover_first-merge-requires : goal.cover_first-merge-requires
cover_first-merge-requires g t c κs within =
    let m = below_measure _ _ _ _ _ _ c.take_first-below.ensures.first c.take_first-name.ensures.first in
    search (rules, m)

pub cover_first-returns : goal.cover_first-returns
cover_first-returns g t c =
    let low : Subtree g.row.T.Denot = record {
      name = c.take_first-below.result.0;
      value = c.take_first-below.result.1;
      below =
          spread c.take_first-below.result.2.items;
    } in
    let high : Subtree g.row.T.Denot = record {
      name = c.take_first-name.result.0;
      value = c.take_first-name.result.1;
      below =
          spread c.take_first-name.result.2.items;
    } in
    record {
      low = low;
      high = high;
      low_left = c.take_first-below.ensures.first;
      high_left = c.take_first-name.ensures.first;
      laid = rw (c.new.ensures, c.lay.ensures) (branch_laid g.T.Lay.laid low high _ _ _ refl refl c.in_ok-children.ensures);
    }

pub merge-cover_first-requires : goal.merge-cover_first-requires
merge-cover_first-requires g t c κs within =
    let m = left_measure g.T.Lay.laid _ _ _ _ _ c.loop-low.invariant in
    let low = some_shown c.loop-low.lows.items c.in-Some-Some.low c.in-Some-Some.ensures.item in
    let high = some_shown c.loop-low.highs.items c.in-Some-Some.high c.in-Some-Some.ensures'.item in
    search (rules, m, low, high)

pub merge-loop-low-preserved-in_ok-pass_first-in-Less : goal.merge-loop-low-preserved-in_ok-pass_first-in-Less
merge-loop-low-preserved-in_ok-pass_first-in-Less g t c =
    let p = c.in_ok-pass_first-in-Less.ensures in
    let highs = shown c.loop-low.highs.items c.in-Some-Some.high c.in-Some-Some.ensures'.item in
    let low = rw p.left at c.in-Some-Some.ensures.lookup in
    let less : name_cmp p.first.name c.in-Some-Some.high.now.name ≡ Less =
    sym (rw (low, c.name.ensures) at c.in-Less.ensures) in
    rw (p.added, highs)
    (low_first g.T.Lay.laid _ _ _ _ _ _ _ (rw (p.left, highs) at c.loop-low.invariant) less)

pub merge-loop-low-preserved-in_ok-pass_first-in-Greater :
    goal.merge-loop-low-preserved-in_ok-pass_first-in-Greater
merge-loop-low-preserved-in_ok-pass_first-in-Greater g t c =
    let p = c.in_ok-pass_first-in-Greater.ensures in
    let lows = shown c.loop-low.lows.items c.in-Some-Some.low c.in-Some-Some.ensures.item in
    let high = rw p.left at c.in-Some-Some.ensures'.lookup in
    let greater : name_cmp c.in-Some-Some.low.now.name p.first.name ≡ Greater =
    sym (rw (c.name.ensures, high) at c.in-Greater.ensures) in
    rw (p.added, lows)
    (high_first g.T.Lay.laid _ _ _ _ _ _ _ (rw (lows, p.left) at c.loop-low.invariant) greater)

pub merge-loop-low-preserved : goal.merge-loop-low-preserved
merge-loop-low-preserved g t c =
    let p = c.in_ok-cover_first-in-Equal.ensures in
    let low = rw p.low_left at c.in-Some-Some.ensures.lookup in
    let high = rw p.high_left at c.in-Some-Some.ensures'.lookup in
    let equal : name_cmp p.low.name p.high.name ≡ Equal =
    sym (rw (c.name.ensures, low, high) at c.in-Equal.ensures) in
    rw c.in_ok-push-in-Equal.ensures.items
    (both_first g.T.Lay.laid _ _ _ _ _ _ _ (rw (p.low_left, p.high_left) at c.loop-low.invariant) _
    equal p.laid)

pub merge-returns : goal.merge-returns
merge-returns g t c =
    let out : c.append-2.new.out.items ≡ (c.loop-low.out.items ++ c.loop-low.lows.items) ++ c.loop-low.highs.items =
    c.in_ok-append-2.ensures
    ∙ ap (λ (xs : List (Subtree g.row.T.Denot)). xs ++ c.loop-low.highs.items) c.in_ok-append.ensures in
    rw out (are_laid g.T.Lay.laid (elim c.match-front.branch [
      | merge-in_default w ↦ lows_left g.T.Lay.laid _ _ _ _ _ c.loop-low.invariant (nothing_shown _ w.in_default.ensures'.item)
      | merge-in_default-2 w ↦ highs_left g.T.Lay.laid _ _ _ _ _ c.loop-low.invariant (nothing_shown _ w.in_default.ensures.item)
    ]) c.requires.low c.requires.high)

pub merge-returns-then-is_empty : goal.merge-returns-then-is_empty
merge-returns-then-is_empty g t c =
    let none : length c.args.lows.items ≡ 0 = omega (arith, eqb-true _ _ (sym c.if-is_empty.ensures), c.args.lows.ok.0) in
    no_lows g.T.Lay.laid c.args.lows.items c.args.highs.items (nil_from_length c.args.lows.items none) c.requires.low
    c.requires.high

pub merge-returns-then-is_empty-2 : goal.merge-returns-then-is_empty-2
merge-returns-then-is_empty-2 g t c =
    let none : length c.args.highs.items ≡ 0 = omega (arith, eqb-true _ _ (sym c.if-is_empty-2.ensures), c.args.highs.ok.0) in
    no_highs g.T.Lay.laid c.args.lows.items c.args.highs.items (nil_from_length c.args.highs.items none) c.requires.low
    c.requires.high

pub merge-loop-low-init : goal.merge-loop-low-init
merge-loop-low-init g t c =
    rw (c.from-lows.ensures.0, c.from-highs.ensures.0, c.in_ok-out.ensures.items)
    (merging_begun g.T.Lay.laid c.args.lows.items c.args.highs.items)

pub merge-loop-low-smaller : goal.merge-loop-low-smaller
merge-loop-low-smaller g t c =
    let p = c.in_ok-cover_first-in-Equal.ensures in
    both_less _ _ c.loop-low.lows.items _ c.loop-low.highs.items _ p.low_left p.high_left

pub merge-loop-low-smaller-in_ok-pass_first-in-Less : goal.merge-loop-low-smaller-in_ok-pass_first-in-Less
merge-loop-low-smaller-in_ok-pass_first-in-Less g t c =
    low_less _ c.loop-low.lows.items _ c.loop-low.highs.items c.in_ok-pass_first-in-Less.ensures.left

pub merge-loop-low-smaller-in_ok-pass_first-in-Greater :
    goal.merge-loop-low-smaller-in_ok-pass_first-in-Greater
merge-loop-low-smaller-in_ok-pass_first-in-Greater g t c =
    high_less _ c.loop-low.lows.items c.loop-low.highs.items _ c.in_ok-pass_first-in-Greater.ensures.left

pub merge-pass_first-requires : goal.merge-pass_first-requires
merge-pass_first-requires g t c = some_shown c.loop-low.lows.items c.in-Some-Some.low c.in-Some-Some.ensures.item

pub merge-pass_first-requires-in-Greater : goal.merge-pass_first-requires-in-Greater
merge-pass_first-requires-in-Greater g t c = some_shown c.loop-low.highs.items c.in-Some-Some.high c.in-Some-Some.ensures'.item
