use Rattle.std.proofs.Common.{rules, ◌≡◌, sym, refl, length, arith, false}
use Rattle.std.proofs.lemmas.Bool.{eqb-true}
use Rattle.std.proofs.lemmas.List.{nil_from_length}
use Rattle.layer_paths.proofs.Rising.{branch_rises}
use Rattle.layer_tree.proofs.Clashing.{folders, unmarked_folder, nothing_there, no_clash, one_clash, deeper_measure, clashing_ended}
use Rattle.layer_tree.proofs.Stepping.{shorter}
use Rattle.layer_tree.proofs.clashes.+clashing.Goals as goal

pub clash_of-returns-then-is_empty : goal.clash_of-returns-then-is_empty
clash_of-returns-then-is_empty g t c =
    let e : length c.in_ok-marks.marks.items ≡ 0 = omega (arith, eqb-true _ _ (sym c.if-is_empty.ensures), c.in_ok-marks.marks.ok.0) in
    let folder : (g.T.Cuts.removed c.args.file.now.value).cut ≡ false = search rules in
    unmarked_folder g.T.Cuts.removed c.args.file.now c.args.other.now c.children.result.now c.children-2.result.now
    c.in_ok-marks.marks.items (nil_from_length c.in_ok-marks.marks.items e) c.children.ensures.below c.children-2.ensures.below folder
    c.in_ok-marks.ensures

pub clash_of-returns : goal.clash_of-returns
clash_of-returns g t c =
    let folder : (g.T.Cuts.removed c.args.file.now.value).cut ≡ false = search rules in
    rw c.new.ensures (record {
      name = search rules;
      rising = branch_rises c.in_ok-name.name _ c.in_ok-marks.marks.items c.in_ok-marks.ensures.forest;
      at = folders g.T.Cuts.removed c.args.file.now c.args.other.now c.children.result.now c.children-2.result.now
          c.in_ok-marks.marks.items c.in_ok-name.name _ c.children.ensures.below c.children-2.ensures.below folder refl refl
          c.in_ok-marks.ensures;
    })

pub clashes_below-clash_of-requires : goal.clashes_below-clash_of-requires
clashes_below-clash_of-requires g t c κs within =
    let so_far = rw c.in-Some.ensures.cases.0 at c.loop-file.invariant in
    let m = deeper_measure _ _ _ _ _ _ _ _ so_far (rw c.name.ensures at c.seek.ensures.rest) in
    search (rules, m)

pub clashes_below-loop-file-preserved-in_ok-push : goal.clashes_below-loop-file-preserved-in_ok-push
clashes_below-loop-file-preserved-in_ok-push g t c =
    let so_far = rw c.in-Some.ensures.cases.0 at c.loop-file.invariant in
    let from = rw c.name.ensures at c.seek.ensures.rest in
    let there = rw (c.in-Some-found.is, c.name.ensures) at c.seek.ensures.first in
    let clash = rw c.in-Some-2.is at c.in_ok-mark.ensures in
    rw c.in_ok-push.ensures.items (one_clash _ _ _ _ _ _ _ _ so_far from _ _ there clash)

pub clashes_below-loop-file-preserved-in_default-2 : goal.clashes_below-loop-file-preserved-in_default-2
clashes_below-loop-file-preserved-in_default-2 g t c =
    let so_far = rw c.in-Some.ensures.cases.0 at c.loop-file.invariant in
    let from = rw c.name.ensures at c.seek.ensures.rest in
    let there = rw (c.in-Some-found.is, c.name.ensures) at c.seek.ensures.first in
    no_clash _ _ _ _ _ _ _ _ so_far from _ there (rw c.in_default-2.is at c.in_ok-mark.ensures)

pub clashes_below-loop-file-preserved : goal.clashes_below-loop-file-preserved
clashes_below-loop-file-preserved g t c =
    let so_far = rw c.in-Some.ensures.cases.0 at c.loop-file.invariant in
    let from = rw c.name.ensures at c.seek.ensures.rest in
    nothing_there _ _ _ _ _ _ _ _ so_far from (rw (c.in_default-found.is, c.name.ensures) at c.seek.ensures.first)

pub clashes_below-returns : goal.clashes_below-returns
clashes_below-returns g t c =
    let ended = nil_from_length c.loop-file.left.now (search rules) in
    clashing_ended _ _ _ _ _ _ c.loop-file.invariant ended c.requires.files.names c.requires.others.names

pub clashes_below-seek-requires : goal.clashes_below-seek-requires
clashes_below-seek-requires g t c = c.loop-file.invariant.rest_names

pub clashes_below-loop-file-smaller-in_ok-push : goal.clashes_below-loop-file-smaller-in_ok-push
clashes_below-loop-file-smaller-in_ok-push g t c = shorter _ _ _ c.in-Some.ensures.cases.0

pub clashes_below-loop-file-smaller-in_default-2 : goal.clashes_below-loop-file-smaller-in_default-2
clashes_below-loop-file-smaller-in_default-2 g t c = shorter _ _ _ c.in-Some.ensures.cases.0

pub clashes_below-loop-file-smaller : goal.clashes_below-loop-file-smaller
clashes_below-loop-file-smaller g t c = shorter _ _ _ c.in-Some.ensures.cases.0
