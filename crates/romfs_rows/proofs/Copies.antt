-- Bytes that are copied piece by piece: one piece more (copied_more).
use Rattle.std.proofs.Common.{◌≡◌, ◌∙◌, sym, ap, ℕ, ◌+◌, ◌≤◌, List, ◌++◌, length, take, drop, arith, take-append-drop, length-append, length-take-le}
use Rattle.std.proofs.lemmas.List.{take-take, drop-take, drop-drop}

take_add : (n m : ℕ) (xs : List ℕ) → take (n + m) xs ≡ take n xs ++ take m (drop n xs)
take_add n m xs =
    sym (take-append-drop n (take (n + m) xs))
    ∙ ap (λ l. l ++ drop n (take (n + m) xs)) (take-take n (n + m) xs (omega arith))
    ∙ ap (λ l. take n xs ++ l) (drop-take n m xs)

pub copied_more : (a items room : List ℕ) (at count k : ℕ) → items ≡ take (length items) (drop at a)
    → take count room ≡ take count (drop (at + length items) a) → k ≤ count → k ≤ length room
    → items ++ take k room ≡ take (length (items ++ take k room)) (drop at a)
copied_more a items room at count k is got few short =
    let n = length items in
    let long : length (items ++ take k room) ≡ n + k =
    length-append items (take k room) ∙ ap (λ i. n + i) (length-take-le k room short) in
    let piece : take k room ≡ take k (drop n (drop at a)) =
    sym (take-take k count room few) ∙ ap (λ i. take k i) got ∙ take-take k count (drop (at + n) a) few
    ∙ ap (λ i. take k i) (sym (drop-drop n at a)) in
    ap (λ i. items ++ i) piece ∙ ap (λ i. i ++ take k (drop n (drop at a))) is ∙ sym (take_add n k (drop at a))
    ∙ ap (λ i. take i (drop at a)) (sym long)
