use Rattle.std.proofs.Common.{◌∙◌, ap, ℕ, length, replicate}
use Rattle.romfs_sets.proofs.Spreading.{spread_none}
use Rattle.romfs_sets.proofs.slot_words.SlotWords.new.Goals as goal

pub returns : goal.returns
returns g c =
    let n = c.in_ok-numbers.ensures in (
      n,
      spread_none c.in_ok-numbers.numbers c.in_ok-words.words.items _
          (c.in_ok-words.ensures.items_if_clones_equal (λ y e. e)) ∙ ap (λ s. replicate {A = ℕ} (length s) 0) n,
    )
