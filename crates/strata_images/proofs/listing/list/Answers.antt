use Rattle.std.proofs.Common.{◌≡◌, ◌∙◌, ap, map, subst, List, ℕ}
use Rattle.romfs_held.specs.Images.{held_bytes}
use Rattle.romfs_files.specs.Opening.{loaded_contents}
use Rattle.strata_images.specs.Images.{bytes_of, profile_of}
use Rattle.strata_images.specs.Listing.{IsStackListed, IsNotListed}
use Rattle.strata_images.proofs.Listed.{bytes_apart, told_on, unlisted}
use Rattle.strata_images.proofs.listing.list.Goals as goal

pub returns-in_err-unread-clause-stopped : goal.returns-in_err-unread-clause-stopped
returns-in_err-unread-clause-stopped g c = unlisted _ _ _ c.from_residual.result c.from_residual.ensures.1

pub returns-in_err-held-clause-stopped : goal.returns-in_err-held-clause-stopped
returns-in_err-held-clause-stopped g c = unlisted _ _ _ c.from_residual-in_err-held.result c.from_residual-in_err-held.ensures.1

pub returns-in_err-list_held-clause-stopped : goal.returns-in_err-list_held-clause-stopped
returns-in_err-list_held-clause-stopped g c =
    let same : bytes_of c.in_ok-held.field-0.held ≡ loaded_contents c.args.images =
    ap (map held_bytes) c.in_ok-held.ensures.held_are ∙ bytes_apart c.args.images.items in
    let old = g.K.Sink.state c.args.output.now in
    let new = g.K.Sink.state c.list_held.new.output in
    let fault = c.in_err-list_held.field-0.0 in
    told_on (λ told. IsNotListed (profile_of c.args.line.now) (loaded_contents c.args.images) told old new)
    c.from_residual-in_err-list_held.result fault c.from_residual-in_err-list_held.ensures.1
    (subst (λ xs. IsNotListed (profile_of c.args.line.now) xs fault old new) same c.in_err-list_held.ensures.stopped)

pub returns-clause-done : goal.returns-clause-done
returns-clause-done g c =
    let same : bytes_of c.in_ok-held.field-0.held ≡ loaded_contents c.args.images =
    ap (map held_bytes) c.in_ok-held.ensures.held_are ∙ bytes_apart c.args.images.items in
    subst (λ xs. IsStackListed (profile_of c.args.line.now) xs (g.K.Sink.state c.args.output.now) (g.K.Sink.state c.list_held.new.output))
    same c.in_ok-list_held.ensures.done
