use Rattle.std.specs.Borrow.{Bor}
use Rattle.std.proofs.Common.{arith, ◌∙◌, ap, length, unwrap_or, []}
use Rattle.std.proofs.lemmas.List.{length-map}
use Rattle.clap.specs.Walk.{Text, texts}
use Rattle.clap.specs.Words.{found_of}
use Rattle.strata_words.specs.CommandLine.{rows_in}
use Rattle.strata_words.proofs.Parsed.{images_are, one_or_more, some_images}
use Rattle.strata_words.proofs.parse.images.Goals as goal

pub unwrap-requires : goal.unwrap-requires
unwrap-requires c = some_images (found_of c.args.found.now) c.get_strs.result c.get_strs.ensures c.requires

pub returns-clause-are : goal.returns-clause-are
returns-clause-are c =
    let are = images_are (found_of c.args.found.now) c.get_strs.result c.unwrap.result c.get_strs.ensures c.unwrap.ensures in
    ap texts (c.in_ok-images.ensures.items_if_clones_equal (λ x y same. same)) ∙ ap (λ o. unwrap_or o []) are

pub returns-clause-some : goal.returns-clause-some
returns-clause-some c =
    let some = one_or_more (rows_in c.args.found.now) c.unwrap.result.now c.requires
    (images_are (found_of c.args.found.now) c.get_strs.result c.unwrap.result c.get_strs.ensures c.unwrap.ensures) in
    omega (arith, c.in_ok-images.ensures.len)

pub returns-clause-count : goal.returns-clause-count
returns-clause-count c =
    let are = images_are (found_of c.args.found.now) c.get_strs.result c.unwrap.result c.get_strs.ensures c.unwrap.ensures in
    omega (
      arith,
      c.in_ok-images.ensures.len,
      length-map {A = Bor Text} c.unwrap.result.now (λ s. s.now),
      ap (λ o. length (unwrap_or o [])) are,
    )
