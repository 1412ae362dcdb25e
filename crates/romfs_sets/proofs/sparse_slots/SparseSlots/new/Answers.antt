use Rattle.std.proofs.Common.{◌∙◌, ◌++◌, ℕ, ap, ◌*◌, ◌/◌, ◌+◌, arith, replicate}
use Rattle.std.proofs.lemmas.List.{length-replicate}
use Rattle.romfs_sets.proofs.Bits.{bits_none}
use Rattle.romfs_sets.proofs.Paged.{held_none, words_none}
use Rattle.romfs_sets.specs.Pages.{words_of}
use Rattle.romfs_sets.proofs.sparse_slots.SparseSlots.new.Goals as goal

pub invariant_of-result : goal.invariant_of-result
invariant_of-result g c =
    let pages = c.in_ok-pages.ensures.items_if_clones_equal (λ y e. e) in
    let sized = c.in_ok-pages.ensures.len in
    let room = c.in_ok-held.ensures.exact in
    let kept = c.extend_from_slice.ensures.capacity in
    let held = c.in_ok-extend_from_slice.ensures.items in (
      rw pages (length-replicate {A = ℕ} (c.args.slots / 512 + 1) 0),
      c.requires,
      rw (pages, length-replicate {A = ℕ} (c.args.slots / 512 + 1) 0) (omega arith),
      held_none (c.args.slots / 512 + 1) c.in_ok-pages.pages.items c.extend_from_slice.new.self.items pages
          (held ∙ ap (λ xs. xs ++ replicate 8 0) c.in_ok-held.ensures.items),
    )

pub returns : goal.returns
returns g c =
    let pages = c.in_ok-pages.ensures.items_if_clones_equal (λ y e. e) in
    let held = c.in_ok-extend_from_slice.ensures.items in
    bits_none c.args.slots ((c.args.slots / 512 + 1) * 8) (words_of c.in_ok-pages.pages.items c.extend_from_slice.new.self.items)
    (words_none (c.args.slots / 512 + 1) c.in_ok-pages.pages.items c.extend_from_slice.new.self.items pages
    (held ∙ ap (λ xs. xs ++ replicate 8 0) c.in_ok-held.ensures.items))
    (omega arith)
