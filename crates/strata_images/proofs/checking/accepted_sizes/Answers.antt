use Rattle.std.proofs.Common.{◌≡◌, ◌≤◌, ◌∙◌, sym, subst, length, true, true≢false, arith, IfOk, IfErr}
use Rattle.std.proofs.lemmas.List.{length-map}
use Rattle.stack_model.specs.declared.limits.TheConstants.{MAX_LAYERS}
use Rattle.romfs_files.specs.Opening.{loaded_bytes, loaded_contents}
use Rattle.strata_images.specs.Checking.{AreSizes, IsFirstFault}
use Rattle.strata_images.specs.Images.{profile_of}
use Rattle.strata_images.proofs.Allowed.{accepted, not_accepted}
use Rattle.strata_images.proofs.checking.accepted_sizes.Goals as goal
use Rattle.strata_images.proofs.checking.accepted_sizes.Goals.{else-line-via-then-line+else-count-gt-MAX_LAYERS, else-line-via-else-line}

pub returns-clause-ok : goal.returns-clause-ok
returns-clause-ok g c = accepted c.args.line.now (loaded_contents c.args.images) c.checked_sizes.result few sizes
  where
    few : c.args.line.now.as_mounted ≡ true → length (loaded_contents c.args.images) ≤ MAX_LAYERS
    few asked = elim c.else-line.branch [
      | else-line-via-then-line+else-count-gt-MAX_LAYERS w ↦ rw (length-map c.args.images.items loaded_bytes)
          (omega (arith, c.len-count.ensures, w.if-count-gt-MAX_LAYERS.false))
      | else-line-via-else-line w ↦ absurd (true≢false (sym asked ∙ w.if-line.false))
    ]

    sizes : IfOk c.checked_sizes.result (λ sizes. AreSizes (profile_of c.args.line.now) (loaded_contents c.args.images) sizes.items)
    sizes = subst (λ p. IfOk c.checked_sizes.result (λ sizes. AreSizes p (loaded_contents c.args.images) sizes.items))
        c.profile_of.ensures c.checked_sizes.ensures.ok

pub returns-clause-err : goal.returns-clause-err
returns-clause-err g c = not_accepted c.args.line.now (loaded_contents c.args.images) c.checked_sizes.result
    (subst (λ p. IfErr c.checked_sizes.result (λ fault. IsFirstFault p (loaded_contents c.args.images) fault))
    c.profile_of.ensures c.checked_sizes.ensures.err)
