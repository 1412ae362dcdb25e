use Rattle.std.proofs.Common.{◌≡◌, ◌∙◌, sym, ap, ◌+◌, ◌*◌, ◌/◌, ◌%◌, ◌==◌, get_or, false, arith}
use Rattle.std.proofs.lemmas.Nat.Bits.{shr_and_one}
use Rattle.romfs_sets.specs.Pages.{words_of}
use Rattle.romfs_sets.proofs.Bits.{bits_at, slots_of, word_read}
use Rattle.romfs_sets.proofs.Paged.{inside, word_at_page}
use Rattle.romfs_sets.proofs.sparse_slots.SparseSlots.contains.Goals as goal

pub index-requires : goal.index-requires
index-requires g c =
    let same = slots_of _ _ _ c.self.view_is in
    let sized = c.self.invariant.0 in
    let ok = c.self.inside.pages.ok in
    let within = c.requires in
    omega arith

pub index-requires-2 : goal.index-requires-2
index-requires-2 g c =
    let same = slots_of _ _ _ c.self.view_is in
    let sized = c.self.invariant.0 in
    let ok = c.self.inside.held.ok in
    let within = c.requires in
    let number = word_read c.self.inside.pages.items (c.args.slot / 512) c.index.result.now (omega arith) c.index.ensures in
    let there = inside c.self.inside.pages.items c.self.inside.held.items c.self.invariant.3 (c.args.slot / 64) (omega arith) in
    let page : c.args.slot / 64 / 8 ≡ c.args.slot / 512 = omega arith in
    let at = ap (λ p. get_or c.self.inside.pages.items p 0) page in
    omega arith

pub returns : goal.returns
returns g c =
    let pages = c.self.inside.pages.items in
    let held = c.self.inside.held.items in
    let slot = c.args.slot in
    let same = slots_of _ _ _ c.self.view_is in
    let sized = c.self.invariant.0 in
    let within = c.requires in
    let number = word_read pages (slot / 512) c.index.result.now (omega arith) c.index.ensures in
    let there = inside pages held c.self.invariant.3 (slot / 64) (omega arith) in
    let page : slot / 64 / 8 ≡ slot / 512 = omega arith in
    let at = ap (λ p. get_or pages p 0) page in
    let read = word_read held (c.index.result.now * 8 + slot / 64 % 8) c.index-2.result.now (omega arith) c.index-2.ensures in
    let word = word_at_page pages held (slot / 64) c.index.result.now (omega arith) (number ∙ sym at) in
    ap (λ x. x == 1) (shr_and_one c.index-2.result.now (slot % 64))
    ∙ rw read (rw (← word) (sym (bits_at c.self.inside.slots (words_of pages held) slot (omega arith))))
    ∙ ap (λ x. get_or x slot false) c.self.view_is
