use Rattle.std.proofs.Common.{◌≡◌, ◌∙◌, ◌<◌, subst, Option, Some, None, refl, arith, drop, []}
use Rattle.std.specs.Prelude.{slice_get}
use Rattle.std.proofs.lemmas.Option.{slice_get_past, slice_get_read}
use Rattle.fuse_wire.specs.Replies.{reply_with}
use Rattle.fuse_wire.specs.Told.{AppendsTold, Reading}
use Rattle.stack_model.specs.Attributes.{data_of}
use Rattle.node_reader.specs.Readers.{placed}
use Rattle.reply_model.specs.Readings.{data_reading}
use Rattle.fuse_answer.specs.Answers.{node_data}
use Rattle.fuse_answer.specs.Puts.{sourced_by}
use Rattle.fuse_answer.proofs.Reading.{appends_told, nothing_told, none_taken, table_told, file_read, part_long}
use Rattle.fuse_answer.proofs.write.put_part.Goals as goal

pub returns-then-len-eq0 : goal.returns-then-len-eq0
returns-then-len-eq0 g c =
    let place = placed c.args.node.place in
    let reading = data_reading (sourced_by g.D.Contents.source c.args.served) c.args.offset place in
    subst (λ d. AppendsTold c.put_data.result c.args.out.now c.put_data.new.out reading c.args.unique (reply_with c.args.unique d))
    (none_taken c.args.len (drop c.args.offset (data_of c.args.served.table.now.layers place)) c.if-len-eq0.true)
    (appends_told reading c.put_data.result c.args.out.now c.put_data.new.out c.args.unique (reply_with c.args.unique [])
    (nothing_told reading c.args.unique) c.put_data.ensures)

pub overflow_add-start : goal.overflow_add-start
overflow_add-start g c =
    let some : 0 < c.args.len = omega arith in
    let within = c.requires.within some in
    let short = c.requires.holds.lies.short in
    let start = c.from-start.ensures in
    omega arith

pub put_read-requires-clause-end : goal.put_read-requires-clause-end
put_read-requires-clause-end g c =
    let some : 0 < c.args.len = omega arith in
    let within = c.requires.within some in
    let short = c.requires.holds.lies.short in
    let start = c.from-start.ensures in
    omega arith

pub returns-in-Some : goal.returns-in-Some
returns-in-Some g c =
    let place = placed c.args.node.place in
    let at = c.in-Some.ensures.lookup.3 in
    let there : slice_get c.args.served.files.now place.0 ≡ Some c.in-Some.file.now = slice_get_read _ _ _ _ refl at.0 (at.1 _) in
    let some : 0 < c.args.len = omega arith in
    let within = c.requires.within some in
    let long = part_long _ _ _ _ c.requires.holds c.args.offset c.args.len within in
    let begins = c.requires.holds.start_is (λ none. absurd (omega arith)) in
    let read = file_read g.D.Contents.source c.args.served.files.now c.args.served.table.now c.args.offset place c.in-Some.file.now
    c.from-start.result there
    (c.from-start.ensures ∙ begins) in
    subst (λ (v : Option Reading). AppendsTold c.put_read.result c.args.out.now c.put_read.new.out v c.args.unique
    (reply_with c.args.unique (node_data c.args.served.table.now c.args.node c.args.offset c.args.len))) read
    (c.put_read.ensures (node_data c.args.served.table.now c.args.node c.args.offset c.args.len) long)

pub returns-in-None : goal.returns-in-None
returns-in-None g c =
    let place = placed c.args.node.place in
    let none : slice_get c.args.served.files.now place.0 ≡ None = slice_get_past _ _ c.in-None.ensures.lookup.3 in
    appends_told _ _ c.args.out.now c.put_held.new.out _ _ (table_told g.D.Contents.source c.args.served.files.now
    c.args.served.table.now c.args.offset place
    none c.args.unique (reply_with c.args.unique (node_data c.args.served.table.now c.args.node c.args.offset c.args.len))) c.put_held.ensures
