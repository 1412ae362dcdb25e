use Rattle.std.proofs.Common.{◌≡◌, ◌∙◌, ◌-◌, ◌++◌, drop, length, length-take-le, arith}
use Rattle.devices.specs.Sources.{given_of}
use Rattle.romfs_seal.proofs.Blocks.{given_filled}
use Rattle.romfs_seal.proofs.filling.fill_block.Goals as goal

pub returns-clause-ok : goal.returns-clause-ok
returns-clause-ok g c =
    let fits = c.requires.fits in
    let long = c.requires.long in
    let room = c.fill_bytes.new.room in
    let block = c.args.block.now in
    let size : length room ≡ c.args.count =
    c.fill_bytes.auto.room ∙ length-take-le c.args.count block (omega (arith, fits, long)) in
    given_filled (given_of (g.S.Contents.source c.args.source.now)) c.args.place c.args.count
    (length (room ++ drop c.args.count block) - c.args.count) room block c.clear.new.room
    size long fits c.in_ok-fill_bytes.ensures.bytes c.in_ok-fill_bytes.ensures.ok (omega arith) c.clear.ensures
