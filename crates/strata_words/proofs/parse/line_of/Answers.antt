use Rattle.std.proofs.Common.{◌∙◌, inl, inr, refl}
use Rattle.std.proofs.lemmas.Result.{IfOk-from_err, err_from_is_err_and}
use Rattle.strata_words.specs.CommandLine.{rows_in}
use Rattle.strata_words.proofs.Parsed.{digest_fault}
use Rattle.strata_words.proofs.parse.line_of.Goals as goal

pub returns-in_err-number-clause-ok : goal.returns-in_err-number-clause-ok
returns-in_err-number-clause-ok c = IfOk-from_err c.from_residual-in_err-number.result _ c.from_residual-in_err-number.ensures.0

pub returns-in_err-number-clause-err : goal.returns-in_err-number-clause-err
returns-in_err-number-clause-err c =
    let failed = err_from_is_err_and c.from_residual-in_err-number.result c.from_residual-in_err-number.ensures.1 in
    rw (failed.1, failed.2) (elim c.in_err-number.ensures.err [ inl memory ↦ inl memory | inr wrong ↦ inr (inl wrong) ])

pub returns-in_err-number-2-clause-ok : goal.returns-in_err-number-2-clause-ok
returns-in_err-number-2-clause-ok c = IfOk-from_err c.from_residual-in_err-number-2.result _ c.from_residual-in_err-number-2.ensures.0

pub returns-in_err-number-2-clause-err : goal.returns-in_err-number-2-clause-err
returns-in_err-number-2-clause-err c =
    let failed = err_from_is_err_and c.from_residual-in_err-number-2.result c.from_residual-in_err-number-2.ensures.1 in
    rw (failed.1, failed.2) (elim c.in_err-number-2.ensures.err [ inl memory ↦ inl memory | inr wrong ↦ inr (inl wrong) ])

pub returns-in_err-number-3-clause-ok : goal.returns-in_err-number-3-clause-ok
returns-in_err-number-3-clause-ok c = IfOk-from_err c.from_residual-in_err-number-3.result _ c.from_residual-in_err-number-3.ensures.0

pub returns-in_err-number-3-clause-err : goal.returns-in_err-number-3-clause-err
returns-in_err-number-3-clause-err c =
    let failed = err_from_is_err_and c.from_residual-in_err-number-3.result c.from_residual-in_err-number-3.ensures.1 in
    rw (failed.1, failed.2) (elim c.in_err-number-3.ensures.err [ inl memory ↦ inl memory | inr wrong ↦ inr (inl wrong) ])

pub returns-in_err-number-4-clause-ok : goal.returns-in_err-number-4-clause-ok
returns-in_err-number-4-clause-ok c = IfOk-from_err c.from_residual-in_err-number-4.result _ c.from_residual-in_err-number-4.ensures.0

pub returns-in_err-number-4-clause-err : goal.returns-in_err-number-4-clause-err
returns-in_err-number-4-clause-err c =
    let failed = err_from_is_err_and c.from_residual-in_err-number-4.result c.from_residual-in_err-number-4.ensures.1 in
    rw (failed.1, failed.2) (elim c.in_err-number-4.ensures.err [ inl memory ↦ inl memory | inr wrong ↦ inr (inl wrong) ])

pub returns-in_err-owner-clause-ok : goal.returns-in_err-owner-clause-ok
returns-in_err-owner-clause-ok c = IfOk-from_err c.from_residual-in_err-owner.result _ c.from_residual-in_err-owner.ensures.0

pub returns-in_err-owner-clause-err : goal.returns-in_err-owner-clause-err
returns-in_err-owner-clause-err c =
    let failed = err_from_is_err_and c.from_residual-in_err-owner.result c.from_residual-in_err-owner.ensures.1 in
    rw (failed.1, failed.2) (elim c.in_err-owner.ensures.err [ inl memory ↦ inl memory | inr wrong ↦ inr (inl wrong) ])

pub returns-in_err-images-clause-ok : goal.returns-in_err-images-clause-ok
returns-in_err-images-clause-ok c = IfOk-from_err c.from_residual.result _ c.from_residual.ensures.0

pub returns-in_err-images-clause-err : goal.returns-in_err-images-clause-err
returns-in_err-images-clause-err c =
    let failed = err_from_is_err_and c.from_residual.result c.from_residual.ensures.1 in
    rw (failed.1, failed.2) (inl refl)

pub returns-in_err-digests-clause-ok : goal.returns-in_err-digests-clause-ok
returns-in_err-digests-clause-ok c = IfOk-from_err c.from_residual-in_err-digests.result _ c.from_residual-in_err-digests.ensures.0

pub returns-in_err-digests-clause-err : goal.returns-in_err-digests-clause-err
returns-in_err-digests-clause-err c =
    let failed = err_from_is_err_and c.from_residual-in_err-digests.result c.from_residual-in_err-digests.ensures.1 in
    rw (failed.1, failed.2) (digest_fault (rows_in c.args.found.now) c.len.result _
    (c.len.ensures ∙ c.in_ok-images.ensures.count) c.in_err-digests.ensures.err)

pub returns-in_err-crossed-in-Some-clause-ok : goal.returns-in_err-crossed-in-Some-clause-ok
returns-in_err-crossed-in-Some-clause-ok c =
    IfOk-from_err c.from_residual-in_err-crossed-in-Some.result _ c.from_residual-in_err-crossed-in-Some.ensures.0

pub returns-in_err-crossed-in-Some-clause-err : goal.returns-in_err-crossed-in-Some-clause-err
returns-in_err-crossed-in-Some-clause-err c =
    let failed = err_from_is_err_and c.from_residual-in_err-crossed-in-Some.result c.from_residual-in_err-crossed-in-Some.ensures.1 in
    rw (failed.1, failed.2) (inl refl)
