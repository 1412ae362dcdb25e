use Rattle.std.proofs.Common.{◌∙◌, ◌/◌, arith}
use Rattle.romfs_sets.proofs.Paged.{free_page, next_number, room, held_more, held_same}
use Rattle.romfs_sets.proofs.sparse_slots.hold.Goals as goal

pub unwrap-requires : goal.unwrap-requires
unwrap-requires g c =
    let pages = c.args.pages.now.items in
    let held = c.args.held.now.items in
    let ok = c.args.held.now.ok in
    let are = c.requires.pages in
    let free = free_page pages c.args.page c.index.result.now c.requires.page c.index.ensures c.if-number-ne0.false in
    let next = next_number pages held are c.len-number.result (c.len-number.ensures ∙ ok.0) in
    let space = room pages held are c.args.page (c.len-number.result / 8) c.requires.page free next in
    let given = c.requires.room in
    c.extend_from_slice.ensures.succeeds (omega arith)

pub overflow_cast-number-2 : goal.overflow_cast-number-2
overflow_cast-number-2 g c =
    let pages = c.args.pages.now.items in
    let held = c.args.held.now.items in
    let ok = c.args.held.now.ok in
    let are = c.requires.pages in
    let free = free_page pages c.args.page c.index.result.now c.requires.page c.index.ensures c.if-number-ne0.false in
    let next = next_number pages held are c.len-number.result (c.len-number.ensures ∙ ok.0) in
    let space = room pages held are c.args.page (c.len-number.result / 8) c.requires.page free next in
    let few = c.requires.few in
    omega arith

pub returns-clause-pages : goal.returns-clause-pages
returns-clause-pages g c =
    let pages = c.args.pages.now.items in
    let held = c.args.held.now.items in
    let ok = c.args.held.now.ok in
    let are = c.requires.pages in
    let free = free_page pages c.args.page c.index.result.now c.requires.page c.index.ensures c.if-number-ne0.false in
    let next = next_number pages held are c.len-number.result (c.len-number.ensures ∙ ok.0) in
    rw (c.extend_from_slice.ensures.items, c.unwrap.ensures)
    (held_more pages held are c.args.page (c.len-number.result / 8) c.requires.page free next)

pub returns-clause-same : goal.returns-clause-same
returns-clause-same g c =
    let pages = c.args.pages.now.items in
    let held = c.args.held.now.items in
    let ok = c.args.held.now.ok in
    let are = c.requires.pages in
    let free = free_page pages c.args.page c.index.result.now c.requires.page c.index.ensures c.if-number-ne0.false in
    let next = next_number pages held are c.len-number.result (c.len-number.ensures ∙ ok.0) in
    rw (c.extend_from_slice.ensures.items, c.unwrap.ensures)
    (held_same pages held are c.args.page (c.len-number.result / 8) c.requires.page free next)
