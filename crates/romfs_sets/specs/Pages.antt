-- Words by pages of eight; those with a nonzero word are held, after a page of zeros.
use Rattle.std.specs.Prelude.{◌≡◌, ℕ, zero, suc, ◌+◌, ◌*◌, ◌/◌, ◌%◌, ◌<◌, ◌≤◌, ◌⊎◌, List, [], ◌∷◌, length, map, get_or}
use Rattle.std.specs.List.{range_with_len}

-- a word, by the number of its page
abbrev pub word_in : List ℕ → List ℕ → ℕ → ℕ
word_in pages held w = get_or held (get_or pages (w / 8) 0 * 8 + w % 8) 0

-- all words
unfoldable pub words_of : List ℕ → List ℕ → List ℕ
words_of pages held = map (word_in pages held) (range_with_len 0 (length pages * 8))

-- how many pages have a number
unfoldable pub numbered : List ℕ → ℕ
numbered [] = 0
numbered (zero ∷ pages) = numbered pages
numbered (suc n ∷ pages) = suc (numbered pages)

-- pages whose numbers are those of the pages held, from 1 upward, each of one page
pub record ArePages (pages held : List ℕ) : Type 0 where
  pub sized : length held ≡ (numbered pages + 1) * 8
  pub none : (w : ℕ) → w < 8 → get_or held w 0 ≡ 0
  pub there : (p : ℕ) → p < length pages → get_or pages p 0 ≤ numbered pages
  pub apart : (p q : ℕ) → p < length pages → q < length pages
      → get_or pages p 0 ≡ get_or pages q 0 → (get_or pages p 0 ≡ 0) ⊎ (p ≡ q)
