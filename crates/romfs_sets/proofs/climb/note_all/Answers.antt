use borrow.Author.Count.{falls}
use Rattle.std.proofs.Common.{◌≡◌, ◌∙◌, sym, ap, length, get_or, false, arith, below_more}
use Rattle.std.proofs.lemmas.List.{get_or-replicate, length-replicate}
use Rattle.romfs_sets.proofs.Marks.{no_marks}
use Rattle.romfs_sets.proofs.Rounds.{nothing, clash}
use Rattle.romfs_sets.proofs.climb.note_all.Goals as goal

pub loop-from-init : goal.loop-from-init
loop-from-init g c =
    let f = c.args.graph.now in
    let v = c.args.graph.now.next.ok.0 in
    let n : c.len-count.result ≡ length c.args.graph.now.next.items = omega (arith, v) in
    let entered = c.in_ok-vec.ensures.items_if_clones_equal (λ y e. e) in
    let low = c.in_ok-vec-2.ensures.items_if_clones_equal (λ y e. e) in
    let noted = c.in_ok-vec-3.ensures.items_if_clones_equal (λ y e. e) in
    let visited = c.as_mut_slice-visited.ensures.value ∙ c.in_ok-marks.ensures.items_if_clones_equal (λ y e. e) in
    let size : length c.in_ok-vec.field-0.items ≡ length c.args.graph.now.next.items = ap length entered ∙ length-replicate _ false ∙ n in
    record {
      found = nothing _ _ _ (record {
        classed = f.classes.sized;
        entered_sized = size;
        noted_sized = ap length noted ∙ length-replicate _ false ∙ n ∙ sym f.classes.sized;
        low_sized = ap length low ∙ length-replicate _ _ ∙ n ∙ sym f.classes.sized;
        none_entered = no_marks _ _ entered;
        none_noted = no_marks _ _ noted;
        none_low = λ k l. ap (λ xs. get_or xs k 0) low ∙ get_or-replicate _ k _ 0 (let s = f.classes.sized in omega arith)
            ∙ n ∙ sym f.classes.sized;
      });
      walked = record { each = λ x m. absurd (clash _ m (no_marks _ _ visited x)) };
      visited = ap length visited ∙ length-replicate _ false ∙ n;
      entered = size;
      each = λ x l. absurd (omega arith);
    }

pub loop-from-preserved : goal.loop-from-preserved
loop-from-preserved g c =
    let e = c.in_ok-enter_all.ensures in
    record {
      found = e.found;
      walked = e.walked;
      visited = c.enter_all.auto.visited ∙ c.loop-from.invariant.visited;
      entered = e.found.compared.sized;
      each = below_more _ _ (λ x l. e.kept.each x (c.loop-from.invariant.each x l)) e.entered;
    }

pub loop-from-smaller : goal.loop-from-smaller
loop-from-smaller g c = falls _ _ c.loop-from-test.true
