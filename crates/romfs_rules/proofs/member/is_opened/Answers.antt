use Rattle.std.proofs.Common.{◌≢◌, ◌∙◌, sym, inl, inr, rules}
use Rattle.std.proofs.lemmas.Bool.{false≢true}
use Rattle.romfs_format.specs.Fields.{root}
use Rattle.romfs_rules.proofs.Standing.{opened, opened_in, opened_root}
use Rattle.romfs_rules.proofs.member.is_opened.Goals as goal

pub returns-then-at-volume : goal.returns-then-at-volume
returns-then-at-volume g c = (
  λ _. opened_root c.args.volume.now.bytes.now c.args.at (c.if-at-volume.true ∙ c.args.volume.now.rooted),
  λ _. search rules,
)

pub returns-then-is_in_chain : goal.returns-then-is_in_chain
returns-then-is_in_chain g c =
    let a = c.args.volume.now.bytes.now in
    let other : c.args.at ≢ root a = λ e. c.if-at-volume.false (e ∙ sym c.args.volume.now.rooted) in (
      λ t. opened_in a c.args.at (c.is_in_chain.ensures.0 c.if-is_in_chain.true) other (c.opens.ensures.0 t),
      λ o. elim ((opened a c.args.at).0 o) [ inl e ↦ absurd (other e) | inr x ↦ c.opens.ensures.1 x.2 ],
    )

pub returns-else-is_in_chain : goal.returns-else-is_in_chain
returns-else-is_in_chain g c =
    let a = c.args.volume.now.bytes.now in
    let other : c.args.at ≢ root a = λ e. c.if-at-volume.false (e ∙ sym c.args.volume.now.rooted) in (
      λ t. absurd (false≢true (sym c.if-is_in_chain.false ∙ t)),
      λ o. elim ((opened a c.args.at).0 o) [ inl e ↦ absurd (other e) | inr x ↦ c.is_in_chain.ensures.1 x.0 ],
    )
