use Rattle.std.proofs.Common.{◌≡◌, ◌∙◌, ◌+◌, ◌*◌, ◌-◌, ◌/◌, ◌<◌, ◌≤◌, arith}
use Rattle.std.specs.declared.cmp.Ordering.TheVariants.{Less, Equal, Greater}
use Rattle.std.specs.Ordering.{nat_cmp}
use Rattle.std.specs.Cmp.Lexicographic.{slice_cmp}
use Rattle.romfs_format.specs.Part.{piece}
use Rattle.romfs_rows.proofs.Halves.{Differ, skip, chop, first_found, less_before, greater_after, equal_before}
use Rattle.romfs_rows.proofs.value_search.find.Goals as goal

pub loop-low-preserved-in-Less : goal.loop-low-preserved-in-Less
loop-low-preserved-in-Less c =
    let y = c.args.lists.now in
    let n = c.args.name.now in
    let low = c.loop-low.low in
    let high = c.loop-low.high in
    let middle = low + (high - low) / 2 in
    let e : slice_cmp nat_cmp (piece y (2 * middle)) n ≡ Less = cc in
    let b = less_before y c.args.first c.args.end c.requires.rise n middle (omega arith) (omega arith) e in
    let d : Differ y n low (middle + 1) = record { each = λ k l m. b.each k (omega arith) m } in
    record {
      after = omega arith;
      before = omega arith;
      same = c.loop-low.invariant.same ∙ skip y n high low (middle + 1) (omega arith) (omega arith) d;
    }

pub returns-in-Equal : goal.returns-in-Equal
returns-in-Equal c =
    let y = c.args.lists.now in
    let n = c.args.name.now in
    let low = c.loop-low.low in
    let high = c.loop-low.high in
    let middle = low + (high - low) / 2 in
    let e : slice_cmp nat_cmp (piece y (2 * middle)) n ≡ Equal = cc in
    let b = equal_before y c.args.first c.args.end c.requires.rise n middle (omega arith) (omega arith) e in
    let d : Differ y n low middle = record { each = λ k l m. b.each k (omega arith) m } in (
      (let there = c.requires.there in omega arith),
      c.loop-low.invariant.same ∙ skip y n high low middle (omega arith) (omega arith) d ∙ first_found y n high middle (omega arith) e,
    )

pub loop-low-preserved : goal.loop-low-preserved
loop-low-preserved c =
    let y = c.args.lists.now in
    let n = c.args.name.now in
    let low = c.loop-low.low in
    let high = c.loop-low.high in
    let middle = low + (high - low) / 2 in
    let e : slice_cmp nat_cmp (piece y (2 * middle)) n ≡ Greater = cc in
    let a = greater_after y c.args.first c.args.end c.requires.rise n middle (omega arith) (omega arith) e in
    let d : Differ y n middle high = record { each = λ k l m. a.each k l (omega arith) } in
    record {
      after = omega arith;
      before = omega arith;
      same = c.loop-low.invariant.same ∙ chop y n high middle low (omega arith) (omega arith) d;
    }
