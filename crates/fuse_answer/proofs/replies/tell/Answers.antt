use Rattle.std.proofs.Common.{rules, ◌≡◌, ◌∙◌, ap, subst, sym, [], false, cond}
use Rattle.std.specs.Option.{option_map_or}
use Rattle.fuse_wire.specs.Reads.{asked_of}
use Rattle.fuse_wire.specs.Replies.{error_reply, reply_with}
use Rattle.fuse_wire.specs.Told.{AppendsTold}
use Rattle.reply_model.specs.Sessions.{is_fresh, agreement_of}
use Rattle.reply_model.specs.Refusals.{refusal}
use Rattle.reply_model.specs.Replies.{answer, is_silent, reply}
use Rattle.reply_model.specs.Readings.{reading_of}
use Rattle.reply_model.proofs.HeldData.{reading_is}
use Rattle.fuse_answer.specs.Answers.{Decides, IsAnswer, answer_data, answer_reading}
use Rattle.fuse_answer.specs.Puts.{sourced_by}
use Rattle.fuse_answer.proofs.Reading.{appends_told, error_told}
use Rattle.fuse_answer.proofs.replies.tell.Goals as goal

pub returns-in-Err : goal.returns-in-Err
returns-in-Err g c =
    let q = asked_of c.args.request.now in
    let reading = reading_of (sourced_by g.D.Contents.source c.args.served) q in
    let same : reply c.args.served.table.now c.args.session q ≡ error_reply q.unique c.in-Err.errno = search rules in
    subst (AppendsTold c.put_error.result c.args.out.now c.put_error.new.out reading q.unique) (sym same)
    (appends_told reading c.put_error.result c.args.out.now c.put_error.new.out q.unique (error_reply q.unique c.in-Err.errno)
    (error_told reading q.unique c.in-Err.errno) c.put_error.ensures)

pub returns-in-Ok : goal.returns-in-Ok
returns-in-Ok g c =
    let stack = c.args.served.table.now in
    let by = sourced_by g.D.Contents.source c.args.served in
    let s = c.args.session in
    let q = asked_of c.args.request.now in
    let a : IsAnswer stack (is_fresh s) (agreement_of s) q c.in-Ok.answer = subst (Decides stack s q) c.in-Ok.is c.requires in
    let told : is_silent q.op ≡ false = search rules in
    let given = reply_with q.unique (answer stack (agreement_of s) q.node q.op) in
    let same : reply stack s q ≡ reply_with q.unique (answer_data stack c.in-Ok.answer) =
    ap (λ b. cond b [] (option_map_or (error_reply q.unique) (refusal stack s q.node q.op) given)) told
    ∙ ap (λ o. option_map_or (error_reply q.unique) o given) a.taken
    ∙ ap (reply_with q.unique) (sym a.data_is) in
    let reads : reading_of by q ≡ answer_reading by c.in-Ok.answer =
    reading_is stack by.sources q ∙ sym (a.reads_are by.sources) in
    subst (λ r. AppendsTold c.write.result c.args.out.now c.write.new.out r q.unique (reply stack s q)) (sym reads)
    (subst (AppendsTold c.write.result c.args.out.now c.write.new.out (answer_reading by c.in-Ok.answer) q.unique) (sym same)
    c.write.ensures)
