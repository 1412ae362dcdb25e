use Rattle.std.proofs.Common.{◌∙◌, ap, set, arith}
use Rattle.romfs_sets.specs.Words.{Words, words_by_slot}
use Rattle.romfs_sets.proofs.Spreading.{kept_at, put_is}
use Rattle.romfs_sets.proofs.slot_words.SlotWords.put.Goals as goal

pub index_mut-requires : goal.index_mut-requires
index_mut-requires g c =
    let kept = kept_at _ _ _ _ c.self.view_is c.requires c.self.invariant.0 in
    let f = kept.1 in
    let n = c.number-number.ensures in
    let o = c.self.inside.words.ok in
    omega arith

pub returns-clause-put : goal.returns-clause-put
returns-clause-put g c =
    let slots = c.self.inside.numbers in
    let words = c.self.inside.words.items in
    let slot = c.args.slot in
    let kept = kept_at slots words _ slot c.self.view_is c.requires c.self.invariant.0 in
    ap (λ x. words_by_slot slots (set words x c.args.word)) c.number-number.ensures
    ∙ put_is slots words slot kept.0 c.args.word kept.1 ∙ ap (λ (w : Words). set w.by_slot slot c.args.word) c.self.view_is
