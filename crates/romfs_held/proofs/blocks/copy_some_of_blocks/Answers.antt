use Rattle.std.proofs.Common.{rules, ◌≡◌, ◌≤◌, ◌+◌, ◌<◌, length, take}
use Rattle.romfs_held.proofs.Copies.{run_copied, zero_copied}
use Rattle.romfs_held.proofs.blocks.copy_some_of_blocks.Goals as goal

pub returns-then-is_empty : goal.returns-then-is_empty
returns-then-is_empty c =
    let none : length c.run-near.result.now ≡ 0 = search rules in
    zero_copied c.args.size c.args.blocks.now.all.now c.args.bytes.now c.args.at c.args.room.now c.run-near.result.now
    c.run-near.ensures none c.requires.at c.requires.room

pub returns : goal.returns
returns c =
    let n = c.min-count.result in
    let some : 0 < n = search rules in
    let less : n ≤ length c.args.room.now = search rules in
    let more : n ≤ length c.run-near.result.now = search rules in
    let within : c.args.at + n ≤ c.args.size = search rules in
    let is : c.copy_from_slice.new.self ≡ take n c.run-near.result.now = search rules in
    run_copied c.args.size c.args.blocks.now.all.now c.args.bytes.now c.args.at n c.args.room.now
    c.run-near.result.now c.copy_from_slice.new.self c.run-near.ensures some less more within is
