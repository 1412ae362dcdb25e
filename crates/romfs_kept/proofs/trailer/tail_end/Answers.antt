use Rattle.std.proofs.Common.{◌∙◌, ap, sym}
use Rattle.romfs_format.specs.Fields.{word}
use Rattle.romfs_kept.proofs.Tails.{end_some, end_none}
use Rattle.romfs_kept.proofs.trailer.tail_end.Goals as goal

pub returns-in_ok-more-in-Some-clause-ok : goal.returns-in_ok-more-in-Some-clause-ok
returns-in_ok-more-in-Some-clause-ok g c =
    end_some _ _ _ _ _ _ _ c.load.new.bytes.items c.requires.room c.in_ok-load.ensures.held c.in_ok-load.ensures.long
    (c.word.ensures ∙ ap (λ t. word t 8) c.deref.ensures.value)
    (sym c.in-Some.is ∙ c.end_of.ensures.value)
    c.in_ok-more-in-Some.ensures.ok

pub returns-in-None-clause-ok : goal.returns-in-None-clause-ok
returns-in-None-clause-ok g c =
    end_none _ _ _ _ _ c.load.new.bytes.items c.requires.room c.in_ok-load.ensures.held c.in_ok-load.ensures.long
    (c.word.ensures ∙ ap (λ t. word t 8) c.deref.ensures.value)
    (sym c.in-None.is ∙ c.end_of.ensures.value)
