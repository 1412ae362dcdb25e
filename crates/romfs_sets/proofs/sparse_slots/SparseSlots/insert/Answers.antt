use Rattle.std.proofs.Common.{◌≡◌, ◌∙◌, sym, ap, set, true, ◌*◌, ◌/◌, ◌%◌, ◌<◌, ◌+◌, ◌^◌, get_or, bit_or, arith}
use Rattle.romfs_sets.specs.Sets.{bits}
use Rattle.romfs_sets.specs.Pages.{words_of}
use Rattle.romfs_sets.proofs.Bits.{bits_set, slots_of, word_read}
use Rattle.romfs_sets.proofs.Paged.{inside, place, word_at_page, word_set, words_length}
use Rattle.romfs_sets.proofs.sparse_slots.SparseSlots.insert.Goals as goal

pub hold-page-requires-clause-page : goal.hold-page-requires-clause-page
hold-page-requires-clause-page g c =
    let same = slots_of _ _ _ c.self.view_is in
    let sized = c.self.invariant.0 in
    let within = c.requires in
    omega arith

pub returns : goal.returns
returns g c =
    let slot = c.args.slot in
    let slots = c.self.inside.slots in
    let old = words_of c.self.inside.pages.items c.self.inside.held.items in
    let pages = c.hold-page.new.pages.items in
    let held = c.hold-page.new.held.items in
    let value = bit_or c.index_mut.result.now (1 * 2 ^ (slot % 64) % 2 ^ 64) in
    let many = slots_of _ _ _ c.self.view_is in
    let sized = c.self.invariant.0 in
    let kept = c.hold-page.ensures.sized in
    let within = c.requires in
    let inside_all : slot < slots = omega arith in
    let page : slot / 64 / 8 ≡ slot / 512 = omega arith in
    let at = ap (λ p. get_or pages p 0) page in
    let number = c.hold-page.ensures.number in
    let some = c.hold-page.ensures.some in
    let there = inside pages held c.hold-page.ensures.pages (slot / 64) (omega arith) in
    let stands : c.hold-page.result * 8 + slot / 64 % 8 ≡ place pages (slot / 64) = omega arith in
    let read = word_read held (c.hold-page.result * 8 + slot / 64 % 8) c.index_mut.result.now (omega arith)
    c.index_mut.ensures.value in
    let same = c.hold-page.ensures.same in
    let word = read ∙ sym (word_at_page pages held (slot / 64) c.hold-page.result (omega arith) (number ∙ sym at))
    ∙ ap (λ ws. get_or ws (slot / 64) 0) same in
    let long = words_length c.self.inside.pages.items c.self.inside.held.items in
    ap (bits slots) (ap (λ i. words_of pages (set held i value)) stands
    ∙ word_set pages held c.hold-page.ensures.pages (slot / 64) value (omega arith) (omega arith)
    ∙ ap (λ ws. set ws (slot / 64) value) same)
    ∙ bits_set slots old slot c.index_mut.result.now (omega arith) inside_all word
    ∙ ap (λ x. set x slot true) c.self.view_is
