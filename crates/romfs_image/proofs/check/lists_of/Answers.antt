use Rattle.std.proofs.Common.{◌∙◌, sym, refl, inl, inr}
use Rattle.std.proofs.lemmas.Bool.{cases_lt}
use Rattle.std.specs.Prelude.{length}
use Rattle.romfs_format.specs.declared.limits.TheConstants.{HEAD_SIZE}
use Rattle.romfs_format.specs.declared.rule.Rule.TheVariants.{Short, Attributes}
use Rattle.romfs_format.specs.Trailer.{trailer_at}
use Rattle.romfs_image.proofs.check.lists_of.Goals as goal

pub of-requires-clause-long : goal.of-requires-clause-long
of-requires-clause-long g c = elim (cases_lt (length c.args.image.now) HEAD_SIZE) [
  | inl l ↦ absurd (c.requires.keeps Short 0 (l, refl))
  | inr l ↦ l
]

pub of-requires-clause-whole : goal.of-requires-clause-whole
of-requires-clause-whole g c = λ x.
    c.requires.keeps Attributes (trailer_at c.args.image.now) (sym c.reads_attributes.ensures ∙ c.if-reads_attributes.true, x, refl)
