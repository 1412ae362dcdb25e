use Rattle.std.proofs.Common.{rules, sym, subst, refl, Result, Ok}
use Rattle.fuse_answer.specs.Puts.{sourced_by}
use Rattle.serve_device.specs.MountEnds.{ends}
use Rattle.serve_loop.specs.declared.stream_fault.StreamFault.{StreamFault}
use Rattle.serve_core.specs.Headline.{bounds_of}
use Rattle.serve_core.specs.Openings.{IsNotOpenedOver, IsOpenedOver}
use Rattle.serve_loop.specs.declared.done.Done.{Done}
use Rattle.serve_loop.specs.declared.opening.Opening.{Opening}
use Rattle.serve_loop.specs.Serving.{Does}
use Rattle.serve_device.proofs.seat.Seat.open.Goals.{in-Ok-Ended, in-Err}
use Rattle.serve_device.proofs.seat.Seat.open.Goals as goal

pub returns : goal.returns
returns g c =
    let old = (ends g.I.Read.remaining c.args.self.now.input c.args.self.now.output).devices in
    let new = (ends g.I.Read.remaining c.run_until-opened.new.source c.run_until-opened.new.sink).devices in
    let first = c.args.serving.now.terms.first in
    let by = sourced_by g.D.Contents.source c.args.serving.now.served in
    let within = bounds_of g.D.Contents.source c.args.serving.now in
    let opened_so = λ (o : Opening g.row.A.Denot). Does (λ t. IsOpenedOver first by within t (Ok o)) old new in
    let ended_so = λ (r : Result (Done g.row.A.Denot) StreamFault). Does (λ t. IsNotOpenedOver first by within t r) old new in
    elim c.match-opened.branch [
      | in-Ok-Ended w ↦ record {
        result = c.match-opened.ended;
        result_is = refl;
        does = subst ended_so (sym w.ended-is) (subst opened_so w.in-Ok-Ended.field-0-is w.in-Ok-Ended.ensures.run);
        gone = search rules;
      }
      | in-Err w ↦ record {
        result = c.match-opened.ended;
        result_is = refl;
        does = subst ended_so (sym w.ended-is) w.in-Err.ensures.run;
        gone = search rules;
      }
    ]
