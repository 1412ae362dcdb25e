use Rattle.std.proofs.Common.{◌∙◌, sym, ap, get_or, arith}
use Rattle.std.proofs.lemmas.Grind.{get_or_default_zero}
use Rattle.romfs_sets.specs.Sets.{rank}
use Rattle.romfs_sets.specs.Words.{Words}
use Rattle.romfs_sets.proofs.Spreading.{kept_at, word_is}
use Rattle.romfs_sets.proofs.slot_words.SlotWords.at.Goals as goal

pub index-requires : goal.index-requires
index-requires g c =
    let kept = kept_at _ _ _ _ c.self.view_is c.requires c.self.invariant.0 in
    let f = kept.1 in
    let n = c.number.ensures in
    let o = c.self.inside.words.ok in
    omega arith

pub returns : goal.returns
returns g c =
    let slots = c.self.inside.numbers in
    let words = c.self.inside.words.items in
    let slot = c.args.slot in
    let kept = kept_at slots words _ slot c.self.view_is c.requires c.self.invariant.0 in
    c.index.ensures ∙ ap (λ x. get_or words x c.index.result.now) c.number.ensures
    ∙ get_or_default_zero words (rank slots slot) c.index.result.now kept.1 ∙ sym (word_is slots words slot kept.0)
    ∙ ap (λ (w : Words). get_or w.by_slot slot 0) c.self.view_is
