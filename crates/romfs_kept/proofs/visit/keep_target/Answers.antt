use Rattle.std.proofs.Common.{◌∙◌, ◌-◌, ap, min, ℕ, length, take, replicate, arith, length-take-le}
use Rattle.std.proofs.lemmas.List.{length-replicate}
use Rattle.romfs_kept.proofs.Visits.{target_none, target_row}
use Rattle.romfs_kept.proofs.visit.keep_target.Goals as goal

pub returns-then-count-eq0-clause-known : goal.returns-then-count-eq0-clause-known
returns-then-count-eq0-clause-known g c =
    target_none g.S.Contents.source c.args.reader.now _ c.target_len-count.result _ _ _ c.if-count-eq0.true
    (λ k l. c.target_len-count.ensures.link k l
    ∙ ap (λ n. min c.args.words.third n) (c.saturating_sub.ensures ∙ ap (λ n. n - c.args.from) c.size.ensures.value))

pub returns-then-len-le-MIDDLE-clause-known : goal.returns-then-len-le-MIDDLE-clause-known
returns-then-len-le-MIDDLE-clause-known g c =
    rw c.in_ok-keep_row.ensures.same
    (target_row g.S.Contents.source c.args.reader.now _ c.target_len-count.result
    (length (take c.padded-len.result (replicate {A = ℕ} 64 0))) _ _ _ _ c.requires.from
    (rw c.in_ok-keep_row.ensures.same at c.in_ok-keep_row.ensures.known)
    (length-take-le c.padded-len.result (replicate 64 0)
    (let e = length-replicate {A = ℕ} 64 0 in omega (arith, c.if-len-le-MIDDLE.true))
    ∙ c.padded-len.ensures.value)
    (λ k l. c.target_len-count.ensures.link k l
    ∙ ap (λ n. min c.args.words.third n) (c.saturating_sub.ensures ∙ ap (λ n. n - c.args.from) c.size.ensures.value)))

pub returns-clause-known : goal.returns-clause-known
returns-clause-known g c =
    rw c.in_ok-keep_row-2.ensures.same
    (target_row g.S.Contents.source c.args.reader.now _ c.target_len-count.result
    (length (take c.padded-len.result (replicate {A = ℕ} 4096 0))) _ _ _ _ c.requires.from
    (rw c.in_ok-keep_row-2.ensures.same at c.in_ok-keep_row-2.ensures.known)
    (length-take-le c.padded-len.result (replicate 4096 0)
    (let e = length-replicate {A = ℕ} 4096 0 in omega (arith, c.padded-len.ensures.value, c.target_len-count.ensures.few))
    ∙ c.padded-len.ensures.value)
    (λ k l. c.target_len-count.ensures.link k l
    ∙ ap (λ n. min c.args.words.third n) (c.saturating_sub.ensures ∙ ap (λ n. n - c.args.from) c.size.ensures.value)))
