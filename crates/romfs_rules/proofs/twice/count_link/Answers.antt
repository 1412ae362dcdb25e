use Rattle.std.proofs.Common.{◌≡◌, ◌∙◌, sym, subst, ℕ, Option, Some, refl, arith}
use Rattle.std.proofs.lemmas.Bool.{false≢true}
use Rattle.romfs_format.specs.Fields.{IsInside}
use Rattle.romfs_rules.proofs.Counted.{counts_none, counts_first, counts_again}
use Rattle.romfs_rules.proofs.twice.count_link.Goals as goal

pub returns-in_default : goal.returns-in_default
returns-in_default g c = counts_none _ _ _ _ (λ k s. (let e = c.in_default.is in let f = s.1 in cc))

pub returns-then-not-is_inside : goal.returns-then-not-is_inside
returns-then-not-is_inside g c = counts_none _ _ _ _ (λ k s. (
    let e : ◌≡◌ {A = Option ℕ} (Some s.0) (Some c.in-Some.to) = sym s.1 ∙ c.in-Some.is in
    let f : s.0 ≡ c.in-Some.to = cc in
    false≢true (c.if-not-is_inside.ensures.1 (subst (IsInside c.args.volume.now.bytes.now) f s.2))))

pub returns-then-contains : goal.returns-then-contains
returns-then-contains g c =
    let inside = c.if-not-is_inside.ensures.0 refl in
    let within = inside.1 in
    let sized = c.requires.twice in
    rw c.insert.ensures (counts_again _ _ _ _ c.in-Some.to c.in-Some.is inside (omega arith)
    (sym c.contains.ensures ∙ c.if-contains.true))

pub returns-else-contains : goal.returns-else-contains
returns-else-contains g c =
    let inside = c.if-not-is_inside.ensures.0 refl in
    let within = inside.1 in
    let sized = c.requires.once in
    rw c.insert-else-contains.ensures (counts_first _ _ _ _ c.in-Some.to c.in-Some.is inside (omega arith)
    (sym c.contains.ensures ∙ c.if-contains.false))
