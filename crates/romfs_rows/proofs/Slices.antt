-- A word of a part of some bytes is the word of all of them at its place; so are eight bytes, and a
-- part of what is left is a part of all.
use Rattle.std.proofs.Common.{◌≡◌, ◌∙◌, sym, ap, ℕ, ◌+◌, ◌*◌, ◌^◌, ◌≤◌, List, take, drop, get_or, arith}
use Rattle.std.proofs.lemmas.List.{drop-drop, get_or-drop, get_or-take}
use Rattle.romfs_format.specs.Fields.{word}
use Rattle.romfs_format.specs.declared.limits.TheConstants.{ROW_SIZE}
use Rattle.romfs_format.specs.declared.attribute_row.AttributeRow.{AttributeRow}
use Rattle.romfs_format.specs.Trailer.{long_word, row_of, row_start}
use Rattle.romfs_held.proofs.Fields.{word_same}
use Rattle.romfs_held.proofs.Views.{long_by_words}

pub word_in_part : (t : List ℕ) (n s k : ℕ) → k + 4 ≤ n → word (take n (drop s t)) k ≡ word t (s + k)
word_in_part t n s k l = word_same _ _ k (s + k) (λ i m.
    get_or-take n (drop s t) (k + i) 0 (omega arith) ∙ get_or-drop s t (k + i) 0
    ∙ ap (λ p. get_or t p 0) (let g : s + (k + i) ≡ s + k + i = omega arith in g))

pub long_in_part : (t : List ℕ) (n s k : ℕ) → k + 8 ≤ n → long_word (take n (drop s t)) k ≡ long_word t (s + k)
long_in_part t n s k l =
    let high = word_in_part t n s k (omega arith) in
    let low = word_in_part t n s (k + 4) (omega arith) in
    let e = ap (λ p. word t p) (let g : s + (k + 4) ≡ s + k + 4 = omega arith in g) in
    sym (long_by_words (take n (drop s t)) k) ∙ (let g : word (take n (drop s t)) k * 2 ^ 32 + word (take n (drop s t)) (k + 4)
    ≡ word t (s + k) * 2 ^ 32 + word t (s + k + 4) = omega arith in g) ∙ long_by_words t (s + k)

pub part_behind : (b : List ℕ) (place at len : ℕ) → take len (drop (place + at) b) ≡ take len (drop at (drop place b))
part_behind b place at len = ap (take len) (sym (drop-drop at place b))

-- what a row says, by the words of its own bytes
pub row_in_part : (t : List ℕ) (i a b c d e f : ℕ)
    → a ≡ word (take ROW_SIZE (drop (row_start i) t)) 0 → b ≡ word (take ROW_SIZE (drop (row_start i) t)) 4
    → c ≡ word (take ROW_SIZE (drop (row_start i) t)) 8 → d ≡ word (take ROW_SIZE (drop (row_start i) t)) 12
    → e ≡ long_word (take ROW_SIZE (drop (row_start i) t)) 16 → f ≡ word (take ROW_SIZE (drop (row_start i) t)) 24
    → ◌≡◌ {A = AttributeRow} record { place = a; mode = b; uid = c; gid = d; seconds = e; nanoseconds = f } (row_of t i)
row_in_part t i a b c d e f p q r s u v =
    let w : a ≡ word t (row_start i) =
    p ∙ word_in_part t ROW_SIZE (row_start i) 0 (omega arith)
    ∙ ap (word t) (let g : row_start i + 0 ≡ row_start i = omega arith in g) in
    let x : b ≡ word t (row_start i + 4) = q ∙ word_in_part t ROW_SIZE (row_start i) 4 (omega arith) in
    let y : c ≡ word t (row_start i + 8) = r ∙ word_in_part t ROW_SIZE (row_start i) 8 (omega arith) in
    let z : d ≡ word t (row_start i + 12) = s ∙ word_in_part t ROW_SIZE (row_start i) 12 (omega arith) in
    let m : e ≡ long_word t (row_start i + 16) = u ∙ long_in_part t ROW_SIZE (row_start i) 16 (omega arith) in
    let n : f ≡ word t (row_start i + 24) = v ∙ word_in_part t ROW_SIZE (row_start i) 24 (omega arith) in
    cc
