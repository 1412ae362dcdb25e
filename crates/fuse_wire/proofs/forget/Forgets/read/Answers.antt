use Rattle.std.proofs.Common.{◌∙◌, ap, ℕ, ◌*◌, ◌/◌, length, take, drop, min}
use Rattle.std.proofs.lemmas.List.{take_rest}
use Rattle.fuse_wire.specs.Requests.{forgets_in, forgets_of}
use Rattle.fuse_wire.proofs.Items.{whole_items}
use Rattle.fuse_wire.proofs.forget.Forgets.read.Goals as goal

pub returns : goal.returns
unfolding forgets_of
returns c =
    let body = c.args.body.now in
    let count = c.read_u32-count in
    let front = c.front-bytes.ensures.front ∙ ap (λ v. take (16 * min count.result (length v / 16)) v) (take_rest body 8) in
    ap (λ v. forgets_in (length v / 16) v) front
    ∙ whole_items count.result (drop 8 body)
    ∙ ap (λ (n : ℕ). forgets_in (min n (length (drop 8 body) / 16)) (drop 8 body)) count.ensures
