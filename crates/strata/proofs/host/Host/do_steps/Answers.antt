use Rattle.std.proofs.Common.{List, ℕ, refl}
use Rattle.std.proofs.lemmas.Result.{IfOk-from_err}
use Rattle.strata.specs.declared.faults.Fault.{Fault}
use Rattle.strata.specs.declared.faults.Fault.TheVariants.{Images}
use Rattle.strata_words.specs.CommandLine.{IsLineOf}
use Rattle.strata_images.proofs.ReadFor.{held_for}
use Rattle.strata.proofs.Ended.{ended, unread}
use Rattle.strata.proofs.AtSocket.{over_there, stopped_there}
use Rattle.strata_words.specs.declared.options.Verb.TheVariants as verbs
use Rattle.strata.proofs.host.Host.do_steps.Goals as goal

pub returns-in_err-images-in-Serve-clause-stopped : goal.returns-in_err-images-in-Serve-clause-stopped
returns-in_err-images-in-Serve-clause-stopped g c = λ words read.
    unread g.row.A.Denot _ read c.in_err-images-in-Serve.field-0.0 c.in_err-images-in-Serve.ensures.err
    c.from_residual.result c.from_residual.ensures.1

pub returns-in_err-images-in-Serve-clause-over : goal.returns-in_err-images-in-Serve-clause-over
returns-in_err-images-in-Serve-clause-over g c =
    λ words read. IfOk-from_err c.from_residual.result _ c.from_residual.ensures.0

pub returns-in_err-images-in-Socket-clause-stopped : goal.returns-in_err-images-in-Socket-clause-stopped
returns-in_err-images-in-Socket-clause-stopped g c = λ words read.
    unread g.row.A.Denot _ read c.in_err-images-in-Socket.field-0.0 c.in_err-images-in-Socket.ensures.err
    c.from_residual-in_err-images-in-Socket.result c.from_residual-in_err-images-in-Socket.ensures.1

pub returns-in_err-images-in-Socket-clause-over : goal.returns-in_err-images-in-Socket-clause-over
returns-in_err-images-in-Socket-clause-over g c =
    λ words read. IfOk-from_err c.from_residual-in_err-images-in-Socket.result _ c.from_residual-in_err-images-in-Socket.ensures.0

pub returns-in_err-images-in-Check-clause-stopped : goal.returns-in_err-images-in-Check-clause-stopped
returns-in_err-images-in-Check-clause-stopped g c = λ words read.
    unread g.row.A.Denot _ read c.in_err-images-in-Check.field-0.0 c.in_err-images-in-Check.ensures.err
    c.from_residual-in_err-images-in-Check.result c.from_residual-in_err-images-in-Check.ensures.1

pub returns-in_err-images-in-Check-clause-over : goal.returns-in_err-images-in-Check-clause-over
returns-in_err-images-in-Check-clause-over g c =
    λ words read. IfOk-from_err c.from_residual-in_err-images-in-Check.result _ c.from_residual-in_err-images-in-Check.ensures.0

pub returns-in_err-images-in-List-clause-stopped : goal.returns-in_err-images-in-List-clause-stopped
returns-in_err-images-in-List-clause-stopped g c = λ words read.
    unread g.row.A.Denot _ read c.in_err-images-in-List.field-0.0 c.in_err-images-in-List.ensures.err
    c.from_residual-in_err-images-in-List.result c.from_residual-in_err-images-in-List.ensures.1

pub returns-in_err-images-in-List-clause-over : goal.returns-in_err-images-in-List-clause-over
returns-in_err-images-in-List-clause-over g c =
    λ words read. IfOk-from_err c.from_residual-in_err-images-in-List.result _ c.from_residual-in_err-images-in-List.ensures.0

pub returns-in_ok-images-in-Serve : goal.returns-in_ok-images-in-Serve
returns-in_ok-images-in-Serve g c =
    let line = c.args.line.now in
    let both = λ (words : List (List ℕ)) (is : IsLineOf words c.args.line.now).
    let read = c.in_ok-images-in-Serve.ensures.read in
    ended g.row.A.Denot words line _ verbs.Serve _ _ is read c.in-Serve.is (λ (fault : Fault). fault) c.serve.result
    c.as_status.result c.as_status.ensures
    c.serve.ensures.done c.serve.ensures.stopped (λ d. d) (λ fault s. s) in
    record { over = λ words read. (both words read).0; stopped = λ words read. (both words read).1 }

pub listen-requires-clause-socket : goal.listen-requires-clause-socket
listen-requires-clause-socket g c κs within = c.requires.socket c.in-Socket.is

pub returns-in_ok-images-in-Socket-clause-over : goal.returns-in_ok-images-in-Socket-clause-over
returns-in_ok-images-in-Socket-clause-over g c = λ words is.
    let line = c.args.line.now in
    let read = c.in_ok-images-in-Socket.ensures.read in
    over_there g.row.A.Denot _ line _ _ is read c.in-Socket.is c.listen.result c.listen.ensures.ended

pub returns-in_ok-images-in-Socket-clause-stopped : goal.returns-in_ok-images-in-Socket-clause-stopped
returns-in_ok-images-in-Socket-clause-stopped g c = λ words is.
    let line = c.args.line.now in
    let read = c.in_ok-images-in-Socket.ensures.read in
    stopped_there g.row.A.Denot _ line _ _ is read c.in-Socket.is c.listen.result c.listen.ensures.stopped

pub returns-in_ok-images-in-Check : goal.returns-in_ok-images-in-Check
returns-in_ok-images-in-Check g c =
    let line = c.args.line.now in
    let both = λ (words : List (List ℕ)) (is : IsLineOf words c.args.line.now).
    let images = c.in_ok-images-in-Check in
    let read = held_for line g.R.File.Read.remaining images.images images.ensures.ok images.ensures.held in
    ended g.row.A.Denot words line _ verbs.Check _ _ is read c.in-Check.is Images c.check.result
    c.as_told.result c.as_told.ensures
    c.check.ensures.done c.check.ensures.stopped (λ d. (refl, d)) (λ fault s. (refl, (fault, refl, s))) in
    record { over = λ words read. (both words read).0; stopped = λ words read. (both words read).1 }

pub returns-in_ok-images-in-List : goal.returns-in_ok-images-in-List
returns-in_ok-images-in-List g c =
    let line = c.args.line.now in
    let both = λ (words : List (List ℕ)) (is : IsLineOf words c.args.line.now).
    let images = c.in_ok-images-in-List in
    let read = held_for line g.R.File.Read.remaining images.images images.ensures.ok images.ensures.held in
    ended g.row.A.Denot words line _ verbs.List _ _ is read c.in-List.is Images c.list.result
    c.as_told-in-List.result c.as_told-in-List.ensures
    c.list.ensures.done c.list.ensures.stopped (λ d. (refl, d)) (λ fault s. (refl, (fault, refl, s))) in
    record { over = λ words read. (both words read).0; stopped = λ words read. (both words read).1 }
