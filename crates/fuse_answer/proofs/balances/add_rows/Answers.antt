use Rattle.std.proofs.Common.{◌≡◌, ◌+◌, arith}
use Rattle.fuse_answer.specs.Listings.{until_of}
use Rattle.fuse_answer.proofs.Fitting.{until_found}
use Rattle.fuse_answer.proofs.Moving.{adds_none, adds_on, all_added, first_within}
use Rattle.fuse_answer.proofs.balances.add_rows.Goals as goal

pub loop-index-init : goal.loop-index-init
loop-index-init g c = adds_none c.args.rows.now c.args.rows.now.from c.args.balances.now
    (first_within c.args.rows.now c.args.balances.now c.requires.within)

pub add_row-requires-clause-there : goal.add_row-requires-clause-there
add_row-requires-clause-there g c = let w = c.fit-until.ensures.within in let t = c.loop-index-test.true in omega arith

pub add_row-requires-clause-within : goal.add_row-requires-clause-within
add_row-requires-clause-within g c = c.loop-index.invariant.within

pub loop-index-preserved : goal.loop-index-preserved
loop-index-preserved g c =
    adds_on c.args.rows.now c.args.rows.now.from c.loop-index.index (c.loop-index.index + 1) c.args.balances.now c.loop-index.balances
    c.add_row.new.balances c.loop-index.invariant c.add_row.ensures

pub returns : goal.returns
returns g c =
    let found = until_found c.args.rows.now c.fit-until.result.0 c.fit-until.result.1 c.fit-until.ensures in
    let last : c.loop-index.index ≡ until_of c.args.rows.now = omega arith in
    all_added c.args.rows.now c.loop-index.index c.args.balances.now c.loop-index.balances last c.loop-index.invariant
