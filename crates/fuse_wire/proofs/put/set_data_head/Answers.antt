use Rattle.std.proofs.Common.{◌≡◌, ◌∙◌, sym, ap, ◌+◌, ◌-◌, length, take, arith, length-take-le}
use Rattle.std.proofs.lemmas.List.{take_all}
use Rattle.fuse_wire.specs.Replies.{reply_head}
use Rattle.fuse_wire.proofs.Heads.{header_set}
use Rattle.fuse_wire.proofs.put.set_data_head.Goals as goal

pub returns-clause-items : goal.returns-clause-items
returns-clause-items g c =
    let inside = c.out.inside in
    let new = c.head.new.fields in
    let items_is : c.args.out.now.items ≡ take inside.len inside.bytes.items = sym (ap (λ f. f.items) c.out.view_is) in
    let items_len = ap length items_is ∙ length-take-le inside.len inside.bytes.items c.out.invariant in
    let there = c.requires.there in
    let kept = c.as_mut_slice.ensures.value in
    let kept_len = ap length kept in
    let size = c.head.ensures.size in
    let end = c.head.ensures.end in
    let set : new ≡ reply_head c.args.unique (inside.len - c.args.start - 16) =
    sym (take_all c.head.result new (omega arith)) ∙ c.head.ensures.fields in
    header_set c.args.unique inside.len c.args.start (c.args.start + 16 - c.args.start) inside.bytes.len inside.bytes.items
    c.as_mut_slice.result.now c.args.out.now.items new kept items_is c.out.invariant (omega arith) (omega arith) (omega arith) set
