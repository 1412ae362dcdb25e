use Rattle.std.proofs.Common.{◌≡◌, ◌+◌, ◌≤◌, ◌∙◌, ap, ◌++◌, List, ℕ, length, take, drop, arith, length-append, length-take-le, sym, subst}
use Rattle.romfs_rows.proofs.Copies.{copied_more}
use Rattle.romfs_rows.proofs.read.copied.Goals as goal

pub loop-room-preserved : goal.loop-room-preserved
loop-room-preserved g c =
    let a = c.args.image.now in
    let items = c.loop-room.bytes.items in
    let room = c.copy_some-count.new.room in
    let count = c.copy_some-count.result in
    let n = c.min.result in
    let is : c.extend_from_slice.new.self.items ≡ items ++ take n room = c.in_ok-extend_from_slice.ensures.items in
    let done : c.len-in-loop-room.result ≡ length items = omega arith in
    let same : take count room ≡ take count (drop (c.args.at + length items) a) =
    subst (λ (i : ℕ). take count room ≡ take count (drop (c.args.at + i) a)) done c.copy_some-count.ensures.same in
    let more = copied_more a items room c.args.at count n c.loop-room.invariant.is same (omega arith) (omega arith) in
    let long : length (items ++ take n room) ≡ length items + n =
    length-append items (take n room) ∙ ap (λ i. length items + i) (length-take-le n room (omega arith)) in
    record {
      within = subst (λ (xs : List ℕ). length xs ≤ c.args.len) (sym is) (omega arith);
      is = subst (λ (xs : List ℕ). xs ≡ take (length xs) (drop c.args.at a)) (sym is) more;
    }
