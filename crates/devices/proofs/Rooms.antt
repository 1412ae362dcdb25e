-- A room that is filled piece by piece, each after what was filled so far (put_front).
use Rattle.std.proofs.Common.{◌≡◌, ◌∙◌, sym, ap, ℕ, ◌+◌, ◌≤◌, List, ◌++◌, length, take, drop, refl, arith, take-append-drop, length-take-le}
use Rattle.std.proofs.lemmas.List.{take_at, drop_at, take-take, drop-take, take-append-le}
use borrow.Rule.Slice.PartMut.{put_mid, post_of}

-- a front, and what comes after it
pub take_add : (n m : ℕ) (xs : List ℕ) → take (n + m) xs ≡ take n xs ++ take m (drop n xs)
take_add n m xs =
    sym (take-append-drop n (take (n + m) xs))
    ∙ ap (λ l. l ++ drop n (take (n + m) xs)) (take-take n (n + m) xs (omega arith))
    ∙ ap (λ l. take n xs ++ l) (drop-take n m xs)

pub take_past : (p q : List ℕ) (n m : ℕ) → length p ≡ n → take (n + m) (p ++ q) ≡ p ++ take m q
take_past p q n m e = take_add n m (p ++ q) ∙ rw (take_at p q n e, drop_at p q n e) refl

pub put_front : (room part : List ℕ) (done n k : ℕ) → done ≤ length room → n ≤ length part
    → take (done + n) (put_mid done k room part) ≡ take done room ++ take n part
put_front room part done n k d l =
    take_past (take done room) (part ++ post_of done k room) done n (length-take-le done room d)
    ∙ ap (λ r. take done room ++ r) (take-append-le n part (post_of done k room) l)
