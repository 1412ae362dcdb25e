use Rattle.std.proofs.Common.{◌∙◌, sym, subst, inl, inr}
use Rattle.romfs_rules.specs.Marks.{IsElsewhere}
use Rattle.romfs_rules.proofs.member.stands_kept.Goals as goal

pub returns-then-at-volume : goal.returns-then-at-volume
returns-then-at-volume g c =
    let here = c.if-at-volume.true ∙ c.args.volume.now.rooted in
    let flag = c.requires.chains.root in
    let a = c.args.volume.now.bytes.now in (
      λ t. inr (subst (IsElsewhere a) (sym here) (flag.0 t)),
      elim [ inl x ↦ absurd (x.1 here) | inr x ↦ flag.1 (subst (IsElsewhere a) here x) ],
    )

pub returns-else-at-volume : goal.returns-else-at-volume
returns-else-at-volume g c =
    let chain = c.is_in_chain.ensures in (
      λ t. elim (chain.0 t) [ inl x ↦ inl (x, λ e. c.if-at-volume.false (e ∙ sym c.args.volume.now.rooted)) | inr x ↦ inr x ],
      elim [ inl x ↦ chain.1 (inl x.0) | inr x ↦ chain.1 (inr x) ],
    )
