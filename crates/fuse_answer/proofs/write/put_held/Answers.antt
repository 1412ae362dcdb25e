use Rattle.std.proofs.Common.{rules, ◌≡◌, ◌∙◌, ◌+◌, ◌-◌, ap, sym, subst, length, take, drop, Some, arith}
use Rattle.std.proofs.lemmas.List.{length-take}
use Rattle.std.specs.Prelude.{slice_get}
use Rattle.romfs_reader.specs.Readers.{bytes_at}
use Rattle.fuse_wire.specs.Appends.{Appends}
use Rattle.fuse_wire.specs.Replies.{reply_with}
use Rattle.fuse_answer.specs.Answers.{node_data}
use Rattle.fuse_answer.proofs.Reading.{held_appended, data_long, data_there, part_long, part_there}
use Rattle.fuse_answer.proofs.write.put_held.Goals as goal

pub slice_bounds-put_data-end-in-Some-part : goal.slice_bounds-put_data-end-in-Some-part
slice_bounds-put_data-end-in-Some-part g c =
    let is : slice_get c.args.table.now.layers c.args.node.now.place.layer ≡ Some c.in-Some.view = search rules in
    let same = ap length (c.in-Some-part.ensures ∙ data_there _ _ _ _ c.requires.holds c.in-Some.view is) in
    let long = data_long _ _ _ _ c.requires.holds in
    let within = c.requires.within in
    omega arith

pub put_data-requires-in-Some-part : goal.put_data-requires-in-Some-part
put_data-requires-in-Some-part g c =
    let most = length-take (c.args.offset + c.args.len - c.args.offset) (drop c.args.offset c.in-Some-part.bytes.now) in
    let short = c.requires.holds.lies.short in
    let within = c.requires.within in
    omega arith

pub returns-in-Some-part : goal.returns-in-Some-part
returns-in-Some-part g c =
    let is : slice_get c.args.table.now.layers c.args.node.now.place.layer ≡ Some c.in-Some.view = search rules in
    let same = c.in-Some-part.ensures ∙ data_there _ _ _ _ c.requires.holds c.in-Some.view is in
    let long : c.args.offset + c.args.len - c.args.offset ≡ c.args.len = omega arith in
    let among : take (c.args.offset + c.args.len - c.args.offset) (drop c.args.offset c.in-Some-part.bytes.now)
    ≡ node_data c.args.table.now c.args.node.now c.args.offset c.args.len =
    ap (λ n. take n (drop c.args.offset c.in-Some-part.bytes.now)) long ∙ ap (λ d. take c.args.len (drop c.args.offset d)) same in
    subst (λ d. Appends c.put_data-in-Some-part.result c.args.out.now c.put_data-in-Some-part.new.out (reply_with c.args.unique d))
    among c.put_data-in-Some-part.ensures

pub returns-in-None : goal.returns-in-None
returns-in-None g c =
    let is : slice_get c.args.table.now.layers c.args.node.now.place.layer ≡ Some c.in-Some.view = search rules in
    let bytes = node_data c.args.table.now c.args.node.now c.args.offset c.args.len in
    let there = part_there _ _ _ _ c.requires.holds c.args.offset c.args.len c.requires.within c.in-Some.view is in
    let long = part_long _ _ _ _ c.requires.holds c.args.offset c.args.len c.requires.within in
    let start = c.from.result + c.from-in-None.result in
    let begins : start ≡ c.args.node.now.part.start + c.args.offset =
    let s = c.from.ensures in let o = c.from-in-None.ensures in omega arith in
    let stands : bytes ≡ bytes_at c.in-Some.view start (length bytes) =
    sym there ∙ ap (λ n. bytes_at c.in-Some.view n c.args.len) (sym begins)
    ∙ ap (bytes_at c.in-Some.view start) (sym long) in
    held_appended c.in-Some.view start c.args.unique bytes c.put_read.result c.args.out.now c.put_read.new.out stands
    (c.put_read.ensures bytes long)
