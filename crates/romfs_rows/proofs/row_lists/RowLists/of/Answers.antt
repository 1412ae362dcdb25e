use Rattle.std.proofs.Common.{sym}
use Rattle.romfs_rows.proofs.Listed.{are_kept, bare_lists, framed, head_long, kept_lists, rows_long}
use Rattle.romfs_rows.proofs.row_lists.RowLists.of.Goals as goal

pub word-count-requires : goal.word-count-requires
word-count-requires g c = head_long c.args.image.now c.at-trailer.result c.in-Some.place c.in-Some.ensures.has
    c.requires.whole c.in-Some.ensures.is c.at-trailer.ensures

pub behind-part-requires : goal.behind-part-requires
behind-part-requires g c = rows_long c.args.image.now c.at-trailer.result c.in-Some.place c.in-Some.ensures.has
    c.requires.whole c.in-Some.ensures.is c.at-trailer.ensures c.word-count.result c.row_start.result
    c.word-count.ensures c.row_start.ensures.value

pub returns-then-not-starts_with : goal.returns-then-not-starts_with
returns-then-not-starts_with g c = bare_lists c.args.image.now c.at-trailer.result c.in-Some.place c.in-Some.ensures.has
    c.requires.whole c.in-Some.ensures.is c.at-trailer.ensures c.word-count.result c.row_start.result
    c.word-count.ensures c.row_start.ensures.value c.behind-part.result c.behind-part.ensures
    (sym c.if-not-starts_with.ensures) c.bare.result c.bare.ensures

pub lists_in-requires : goal.lists_in-requires
lists_in-requires g c = framed c.args.image.now c.at-trailer.result c.in-Some.place c.in-Some.ensures.has
    c.requires.whole c.in-Some.ensures.is c.at-trailer.ensures c.word-count.result c.row_start.result
    c.word-count.ensures c.row_start.ensures.value c.behind-part.result c.behind-part.ensures
    (sym c.if-not-starts_with.ensures)

pub numbers_in-requires : goal.numbers_in-requires
numbers_in-requires g c = framed c.args.image.now c.at-trailer.result c.in-Some.place c.in-Some.ensures.has
    c.requires.whole c.in-Some.ensures.is c.at-trailer.ensures c.word-count.result c.row_start.result
    c.word-count.ensures c.row_start.ensures.value c.behind-part.result c.behind-part.ensures
    (sym c.if-not-starts_with.ensures)

pub invariant_of-result : goal.invariant_of-result
invariant_of-result g c = are_kept c.args.image.now c.at-trailer.result c.in-Some.place c.in-Some.ensures.has
    c.requires.whole c.in-Some.ensures.is c.at-trailer.ensures c.word-count.result c.row_start.result
    c.word-count.ensures c.row_start.ensures.value c.behind-part.result c.behind-part.ensures
    (sym c.if-not-starts_with.ensures) c.in_ok-bytes.bytes.items c.in_ok-numbers.numbers.items c.in_ok-bytes.ensures
    c.in_ok-numbers.ensures

pub returns : goal.returns
returns g c = kept_lists c.args.image.now c.at-trailer.result c.in-Some.place c.in-Some.ensures.has
    c.requires.whole c.in-Some.ensures.is c.at-trailer.ensures c.word-count.result c.row_start.result
    c.word-count.ensures c.row_start.ensures.value c.behind-part.result c.behind-part.ensures
    (sym c.if-not-starts_with.ensures) c.in_ok-bytes.bytes.items c.in_ok-numbers.numbers.items c.in_ok-bytes.ensures
    c.in_ok-numbers.ensures
