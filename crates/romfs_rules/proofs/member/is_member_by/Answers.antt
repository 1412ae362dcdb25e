use Rattle.std.proofs.Common.{◌∙◌, sym, refl}
use Rattle.std.proofs.lemmas.Bool.{false≢true}
use Rattle.romfs_rules.proofs.Standing.{member_unless, some_member}
use Rattle.romfs_rules.proofs.member.is_member_by.Goals as goal

pub returns-then-stands_kept : goal.returns-then-stands_kept
returns-then-stands_kept g c = member_unless c.args.volume.now.bytes.now c.args.at c.is_dotted_by.result c.is_dotted_by.ensures
    (c.if-stands_kept.ensures.0 refl)

pub returns-else-stands_kept : goal.returns-else-stands_kept
returns-else-stands_kept g c = (
  λ t. absurd (false≢true (sym c.if-stands_kept.false ∙ t)),
  λ m. c.stands_kept.ensures.1 ((some_member c.args.volume.now.bytes.now c.args.at).0 m).0,
)
