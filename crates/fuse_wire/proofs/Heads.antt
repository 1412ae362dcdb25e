-- A reply is set over the kept bytes that begin with the replies: its header and its data, one after another (`reply_set`), or only its
-- header, once its data follow the place of the header (`header_set`).
use Rattle.std.proofs.Common.{◌≡◌, ◌∙◌, sym, ap, ℕ, ◌+◌, ◌-◌, ◌≤◌, List, [], ◌++◌, length, take, drop, arith, append-nil, append_assoc, length-append, length-take-le}
use Rattle.std.proofs.lemmas.List.{drop-drop, drop-take, drop_all, length-drop, take_all, take-take}
use Rattle.std.proofs.Math.Seq.{take-append-add}
use Rattle.fuse_wire.specs.Replies.{reply_head, reply_with}
use Rattle.fuse_wire.proofs.Sizes.{length-head}

-- bytes with others instead of this many from a place on
abbrev replaced : ℕ → ℕ → List ℕ → List ℕ → List ℕ
replaced start n new bytes = take start bytes ++ (new ++ drop n (drop start bytes))

pub header_set : (unique len start n all : ℕ) (kept lent items new : List ℕ) → lent ≡ kept → items ≡ take len kept → len ≤ length kept
    → all ≡ length kept → n ≡ 16 → start + 16 ≤ len → new ≡ reply_head unique (len - start - 16)
    → take len (take all ((take start lent ++ (new ++ drop n (drop start lent)))
    ++ drop (length (take start lent ++ (new ++ drop n (drop start lent)))) kept))
    ≡ take start items ++ reply_with unique (drop (start + 16) items)
unfolding reply_with
header_set unique len start n all kept lent items new lent_is items_is few all_is n_is room new_is =
    let m = len - start - 16 in
    let head = reply_head unique m in
    let head_len = length-head unique m in
    let rest = drop 16 (drop start kept) in
    let whole = replaced start 16 head kept in
    let same : replaced start n new lent ≡ whole = ap (replaced start n new) lent_is ∙ ap (λ w. replaced start n w kept) new_is
    ∙ ap (λ k. replaced start k head kept) n_is in
    let front_len = length-take-le start kept (omega arith) in
    let behind : rest ≡ drop (start + 16) kept = drop-drop 16 start kept in
    let rest_len = ap length behind ∙ length-drop (start + 16) kept in
    let inner_len = length-append head rest in
    let whole_len = length-append (take start kept) (head ++ rest) in
    let none : drop (length whole) kept ≡ [] = drop_all (length whole) kept (omega arith) in
    let place : len ≡ length (take start kept) + (16 + m) = omega arith in
    let second : 16 + m ≡ length head + m = omega arith in
    let cut : take len whole ≡ take start kept ++ (head ++ take m rest) = ap (λ k. take k whole) place
    ∙ take-append-add (take start kept) (head ++ rest) (16 + m)
    ∙ ap (λ v. take start kept ++ v) (ap (λ k. take k (head ++ rest)) second ∙ take-append-add head rest m) in
    let long : len ≡ start + 16 + m = omega arith in
    let following : drop (start + 16) items ≡ take m rest = ap (drop (start + 16)) (items_is ∙ ap (λ k. take k kept) long)
    ∙ drop-take (start + 16) m kept ∙ ap (take m) (sym behind) in
    let size : length (drop (start + 16) items) ≡ m = ap length following ∙ length-take-le m rest (omega arith) in
    let front : take start items ≡ take start kept = ap (take start) items_is ∙ take-take start len kept (omega arith) in
    ap (λ w. take len (take all (w ++ drop (length w) kept))) same
    ∙ ap (λ v. take len (take all (whole ++ v))) none
    ∙ ap (λ v. take len (take all v)) (append-nil whole)
    ∙ ap (take len) (take_all all whole (omega arith))
    ∙ cut
    ∙ sym (ap (λ v. v ++ (reply_head unique (length (drop (start + 16) items)) ++ drop (start + 16) items)) front
    ∙ ap (λ k. take start kept ++ (reply_head unique k ++ drop (start + 16) items)) size
    ∙ ap (λ v. take start kept ++ (head ++ v)) following)

-- a header is set after the replies, and data after it
pub reply_set : (unique n end all len at : ℕ) (bytes items before kept lent first new : List ℕ) → before ≡ items → take len kept ≡ before
    → lent ≡ kept → take at first ≡ take len lent ++ reply_head unique n → take end new ≡ take at first ++ bytes
    → length new ≡ length kept → all ≡ length kept → length bytes ≡ n
    → take end (take all (new ++ drop (length new) kept)) ≡ items ++ reply_with unique bytes
unfolding reply_with
reply_set unique n end all len at bytes items before kept lent first new same held lent_is head_set data_set size all_is long =
    let none : drop (length new) kept ≡ [] = drop_all (length new) kept (omega arith) in
    let front : take len lent ≡ items = ap (take len) lent_is ∙ held ∙ same in
    ap (λ v. take end (take all (new ++ v))) none
    ∙ ap (λ v. take end (take all v)) (append-nil new)
    ∙ ap (take end) (take_all all new (omega arith))
    ∙ data_set
    ∙ ap (λ v. v ++ bytes) (head_set ∙ ap (λ v. v ++ reply_head unique n) front)
    ∙ append_assoc items (reply_head unique n) bytes
    ∙ ap (λ k. items ++ (reply_head unique k ++ bytes)) (sym long)
