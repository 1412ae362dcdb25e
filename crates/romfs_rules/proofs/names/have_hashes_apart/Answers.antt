use Rattle.std.proofs.Common.{◌∙◌, sym, ◌<◌, length, take, arith}
use Rattle.std.proofs.lemmas.Bool.{false≢true, eq-eqb}
use Rattle.std.proofs.lemmas.List.{get_or-take, length-take}
use Rattle.romfs_rules.proofs.NameHashes.{apart_more}
use Rattle.romfs_rules.proofs.names.have_hashes_apart.Goals as goal

pub loop-high-preserved : goal.loop-high-preserved
loop-high-preserved c =
    let hashes = c.args.hashes.now in
    let high = c.loop-high.high in
    apart_more hashes high (λ k l e. (
    let within : k < length (take high hashes) = omega (arith, length-take high hashes) in
    false≢true (sym (c.if-contains.ensures.cases k 0 (omega arith) within) ∙ eq-eqb _ _ (get_or-take high hashes k 0 l ∙ e))))
    c.loop-high.invariant
