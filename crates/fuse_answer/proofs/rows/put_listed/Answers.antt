use Rattle.std.proofs.Common.{◌∙◌, sym, ◌+◌, ◌-◌, ◌++◌, ap, length, arith, length-append, refl}
use Rattle.std.proofs.lemmas.Result.{err_from_is_err_and}
use Rattle.fuse_answer.specs.Listings.{row_bytes_at}
use Rattle.fuse_answer.proofs.Moving.{adds_none, adds_on, all_added, first_within}
use Rattle.fuse_answer.proofs.Writing.{all_rows, fits_next, fits_no_more, none_left, none_written, row_next, so_far_long}
use Rattle.fuse_answer.proofs.rows.put_listed.Goals.{then-not-put_short+else-not-fits+in_ok-put_any, else-not-put_short}
use Rattle.fuse_answer.proofs.rows.put_listed.Goals as goal

pub loop-index-init : goal.loop-index-init
loop-index-init g c = record {
  first = omega arith;
  there = c.requires.whole.within;
  so_far = none_written c.args.table.now c.args.rows.now c.args.out.now.items;
  limit = omega arith;
  grown = omega arith;
  given = adds_none c.args.rows.now c.args.rows.now.from c.args.balances.now
      (first_within c.args.rows.now c.args.balances.now c.requires.within);
}

pub returns-then-not-fits-clause-rows : goal.returns-then-not-fits-clause-rows
returns-then-not-fits-clause-rows g c =
    let was = c.loop-index.invariant in
    let same = c.if-not-put_short.ensures.items in
    let so_far = same ∙ was.so_far in
    let last = fits_no_more c.args.table.now c.args.rows.now c.loop-index.index
    (c.len.result + c.args.rows.now.room - c.len-then-not-put_short.result) c.args.out.now.items c.put_short.new.out.items
    c.requires.whole was.first was.there so_far
    (omega (arith, ap length same, was.limit, c.len.ensures.len, c.len-then-not-put_short.ensures.len)) (sym c.if-not-fits.ensures) in (
      all_rows c.args.table.now c.args.rows.now c.loop-index.index c.args.out.now.items c.put_short.new.out.items last so_far,
      tt,
      tt,
      omega (arith, was.grown, c.put_short.ensures.room),
    )

pub returns-then-not-fits-clause-moves : goal.returns-then-not-fits-clause-moves
returns-then-not-fits-clause-moves g c =
    let was = c.loop-index.invariant in
    let same = c.if-not-put_short.ensures.items in
    let last = fits_no_more c.args.table.now c.args.rows.now c.loop-index.index
    (c.len.result + c.args.rows.now.room - c.len-then-not-put_short.result) c.args.out.now.items c.put_short.new.out.items
    c.requires.whole was.first was.there (same ∙ was.so_far)
    (omega (arith, ap length same, was.limit, c.len.ensures.len, c.len-then-not-put_short.ensures.len)) (sym c.if-not-fits.ensures) in
    all_added c.args.rows.now c.loop-index.index c.args.balances.now c.loop-index.balances last was.given

pub put_any-requires-clause-short : goal.put_any-requires-clause-short
put_any-requires-clause-short g c =
    let was = c.loop-index.invariant in
    let same = c.if-not-put_short.ensures.items in
    let next = fits_next c.args.table.now c.args.rows.now c.loop-index.index
    (c.len.result + c.args.rows.now.room - c.len-then-not-put_short.result) c.args.out.now.items c.put_short.new.out.items was.first
    (same ∙ was.so_far)
    (omega (arith, ap length same, was.limit, c.len.ensures.len, c.len-then-not-put_short.ensures.len)) (sym c.if-not-fits.ensures) in
    omega (
      arith,
      next.ends,
      c.requires.whole.small,
      was.limit,
      ap length same,
      c.len.ensures.len,
      c.len-then-not-put_short.ensures.len,
      so_far_long c.args.table.now c.args.rows.now c.args.out.now.items c.loop-index.index c.loop-index.out.items was.so_far,
    )

pub returns-in_err-put_any-clause-rows : goal.returns-in_err-put_any-clause-rows
returns-in_err-put_any-clause-rows g c =
    let was = c.loop-index.invariant in
    let same = c.if-not-put_short.ensures.items in
    let next = fits_next c.args.table.now c.args.rows.now c.loop-index.index
    (c.len.result + c.args.rows.now.room - c.len-then-not-put_short.result) c.args.out.now.items c.put_short.new.out.items was.first
    (same ∙ was.so_far)
    (omega (arith, ap length same, was.limit, c.len.ensures.len, c.len-then-not-put_short.ensures.len)) (sym c.if-not-fits.ensures) in
    absurd (omega (arith, next.within, c.in_err-put_any.ensures.2, c.requires.room, was.grown, c.put_short.ensures.room))

pub loop-index-preserved : goal.loop-index-preserved
loop-index-preserved g c =
    let was = c.loop-index.invariant in
    let row = row_bytes_at c.args.table.now c.args.rows.now c.loop-index.index in
    let there = c.loop-index-test.true in
    let count = c.count.ensures in
    let given = adds_on c.args.rows.now c.args.rows.now.from c.loop-index.index (c.loop-index.index + 1) c.args.balances.now
    c.loop-index.balances c.add_row.new.balances was.given c.add_row.ensures in
    elim c.if-not-put_short.branch [
      | then-not-put_short+else-not-fits+in_ok-put_any w ↦
          let same = w.if-not-put_short.ensures.items in
          let put = w.in_ok-put_any.ensures in
          let next = fits_next c.args.table.now c.args.rows.now c.loop-index.index
          (c.len.result + c.args.rows.now.room - w.len-then-not-put_short.result) c.args.out.now.items c.put_short.new.out.items was.first
          (same ∙ was.so_far)
          (omega (arith, ap length same, was.limit, c.len.ensures.len, w.len-then-not-put_short.ensures.len)) (sym w.if-not-fits.ensures) in
          let items = ap (λ o. o.items) w.out-is ∙ put.0 ∙ ap (λ b. b ++ row) same in
          let len = ap length items ∙ length-append c.loop-index.out.items row in
          record {
            first = omega (arith, was.first);
            there = omega (arith, there, count);
            so_far = row_next c.args.table.now c.args.rows.now c.loop-index.index c.args.out.now.items c.loop-index.out.items
                c.if-not-put_short.out.items was.first (omega (arith, there, count)) was.so_far items;
            limit = omega (arith, len, next.ends, ap length same, was.limit, c.len.ensures.len, w.len-then-not-put_short.ensures.len);
            grown = omega (arith, was.grown, c.put_short.ensures.room, put.3, ap (λ o. o.room) w.out-is);
            given = given;
          }
      | else-not-put_short w ↦
          let items = ap (λ o. o.items) w.out-is ∙ w.if-not-put_short.ensures.items in
          record {
            first = omega (arith, was.first);
            there = omega (arith, there, count);
            so_far = row_next c.args.table.now c.args.rows.now c.loop-index.index c.args.out.now.items c.loop-index.out.items
                c.if-not-put_short.out.items was.first (omega (arith, there, count)) was.so_far items;
            limit = omega (arith, ap length (ap (λ o. o.items) w.out-is), w.if-not-put_short.ensures.few refl);
            grown = omega (arith, was.grown, c.put_short.ensures.room, ap (λ o. o.room) w.out-is);
            given = given;
          }
    ]

pub returns-clause-rows : goal.returns-clause-rows
returns-clause-rows g c =
    let was = c.loop-index.invariant in
    let last = none_left c.args.table.now c.args.rows.now c.loop-index.index c.args.out.now.items c.loop-index.out.items
    c.requires.whole was.first (omega (arith, was.there, c.count.ensures, c.loop-index-test.false)) was.so_far
    (omega (arith, was.limit, c.len.ensures.len)) in (
      all_rows c.args.table.now c.args.rows.now c.loop-index.index c.args.out.now.items c.loop-index.out.items last was.so_far,
      tt,
      tt,
      was.grown,
    )

pub returns-clause-moves : goal.returns-clause-moves
returns-clause-moves g c =
    let was = c.loop-index.invariant in
    let last = none_left c.args.table.now c.args.rows.now c.loop-index.index c.args.out.now.items c.loop-index.out.items
    c.requires.whole was.first (omega (arith, was.there, c.count.ensures, c.loop-index-test.false)) was.so_far
    (omega (arith, was.limit, c.len.ensures.len)) in
    all_added c.args.rows.now c.loop-index.index c.args.balances.now c.loop-index.balances last was.given

pub put_any-requires-clause-there : goal.put_any-requires-clause-there
put_any-requires-clause-there g c = (omega (arith, c.loop-index-test.true, c.count.ensures), omega arith)

pub add_row-requires-clause-from : goal.add_row-requires-clause-from
add_row-requires-clause-from g c = c.loop-index.invariant.first

pub add_row-requires-clause-there : goal.add_row-requires-clause-there
add_row-requires-clause-there g c = (omega (arith, c.loop-index-test.true, c.count.ensures), omega arith)

pub put_short-requires : goal.put_short-requires
put_short-requires g c = (omega (arith, c.loop-index-test.true, c.count.ensures), omega arith)

pub overflow_add-index : goal.overflow_add-index
overflow_add-index g c = omega arith

pub returns-in_err-put_any-clause-moves : goal.returns-in_err-put_any-clause-moves
returns-in_err-put_any-clause-moves g c =
    let failed = err_from_is_err_and c.from_residual.result c.from_residual.ensures.1 in rw failed.1 tt

pub add_row-requires-clause-within : goal.add_row-requires-clause-within
add_row-requires-clause-within g c = c.loop-index.invariant.given.within

pub fits-requires : goal.fits-requires
fits-requires g c =
    let was = c.loop-index.invariant in
    omega (
      arith,
      c.requires.whole.small,
      c.len.ensures.len,
      c.len-then-not-put_short.ensures.len,
      ap length c.if-not-put_short.ensures.items,
      so_far_long c.args.table.now c.args.rows.now c.args.out.now.items c.loop-index.index c.loop-index.out.items was.so_far,
    )

pub overflow_add-most : goal.overflow_add-most
overflow_add-most g c = omega (arith, c.requires.whole.small, c.len.ensures.few)

pub overflow_sub-most : goal.overflow_sub-most
overflow_sub-most g c =
    let same = ap length c.if-not-put_short.ensures.items in
    omega (arith, c.loop-index.invariant.limit, c.len.ensures.len, c.len-then-not-put_short.ensures.len, same)

pub loop-index-smaller : goal.loop-index-smaller
loop-index-smaller g c = omega (arith, c.loop-index-test.true, c.count.ensures)
