use Rattle.std.proofs.Common.{◌+◌, ◌<◌, ◌≤◌, length, arith}
use Rattle.fuse_answer.proofs.Fitting.{all_gone, no_room, none_gone, one_gone}
use Rattle.fuse_answer.proofs.listing.fit.Goals as goal

pub loop-until-init : goal.loop-until-init
loop-until-init g c =
    let l = c.args.rows.now in
    none_gone l.with_entries l.children.now l.from l.room c.requires.within

pub row_size-requires : goal.row_size-requires
row_size-requires g c = let l = c.loop-until.invariant.left in let s = c.requires.small in omega arith

pub loop-until-preserved : goal.loop-until-preserved
loop-until-preserved g c =
    let l = c.args.rows.now in
    let there : c.loop-until.until < 2 + length l.children.now = omega arith in
    one_gone l.with_entries l.children.now l.from l.room c.loop-until.until c.loop-until.room c.name_length.result c.in-Some.bytes there
    c.name_length.ensures c.in-Some.ensures.0 c.in-Some.ensures.1 c.loop-until.invariant

pub loop-until-smaller : goal.loop-until-smaller
loop-until-smaller g c = let there : c.loop-until.until < 2 + length c.args.rows.now.children.now = omega arith in omega arith

pub returns-in-None : goal.returns-in-None
returns-in-None g c =
    let l = c.args.rows.now in
    let there : c.loop-until.until < 2 + length l.children.now = omega arith in
    no_room l.with_entries l.children.now l.from l.room c.loop-until.until c.loop-until.room c.name_length.result there
    c.name_length.ensures c.in-None.ensures c.loop-until.invariant

pub returns : goal.returns
returns g c =
    let l = c.args.rows.now in
    let past : 2 + length l.children.now ≤ c.loop-until.until = omega arith in
    all_gone l.with_entries l.children.now l.from l.room c.loop-until.until c.loop-until.room past c.loop-until.invariant
