use Rattle.std.proofs.Common.{subst, ◌+◌, take, ℕ, Bool, true, false, arith}
use Rattle.fuse_wire.specs.Told.{Fills}
use Rattle.fuse_wire.proofs.Telling.{told_whole, told_unread}
use Rattle.fuse_wire.proofs.read.set_read.Goals as goal

pub returns-then-fill_at-clause-told : goal.returns-then-fill_at-clause-told
returns-then-fill_at-clause-told g c = λ bytes long.
    let source = g.D.Contents.source c.args.from.now in
    let headed = take c.head-behind.result c.head-behind.new.fields in
    let end : ℕ = c.head-behind.result + c.args.size in
    let filled : Fills source c.args.place c.args.size true headed (take end c.fill_at.new.fields) =
    subst (λ (b : Bool). Fills source c.args.place c.args.size b headed (take end c.fill_at.new.fields)) c.if-fill_at.true
    c.fill_at.ensures.filled in
    told_whole source c.args.place c.args.unique c.args.size bytes (take c.args.at c.args.fields.now) headed
    (take end c.fill_at.new.fields) long c.head-behind.ensures.fields filled

pub returns-else-fill_at-clause-told : goal.returns-else-fill_at-clause-told
returns-else-fill_at-clause-told g c = λ bytes long.
    let source = g.D.Contents.source c.args.from.now in
    let headed = take c.head-behind.result c.head-behind.new.fields in
    let end : ℕ = c.head-behind.result + c.args.size in
    let filled : Fills source c.args.place c.args.size false headed (take end c.fill_at.new.fields) =
    subst (λ (b : Bool). Fills source c.args.place c.args.size b headed (take end c.fill_at.new.fields)) c.if-fill_at.false
    c.fill_at.ensures.filled in
    let at = c.head-behind.ensures.end in
    let room = c.requires.room in
    told_unread source c.args.place c.args.unique c.args.at end c.args.size bytes c.args.fields.now c.fill_at.new.fields headed
    (take c.error_head.result c.error_head.new.fields) long (omega arith) (omega arith) c.head-behind.ensures.fields filled
    c.error_head.ensures.fields
