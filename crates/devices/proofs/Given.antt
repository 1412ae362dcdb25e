-- What a source may give piece by piece, each after what it gave so far, it may give at once (given_more). Held bytes lack nothing
-- before their end (held_lacks); a read of them gives what may be given (reads_held). Any source may give no bytes (gives_none).
use Rattle.std.proofs.Common.{◌≡◌, ◌∙◌, sym, ap, subst, ℕ, ◌+◌, ◌<◌, ◌≤◌, List, [], ◌++◌, length, take, drop, Ok, inl, inr, refl, arith, length-append, length-take-le}
use Rattle.std.proofs.lemmas.List.{drop-drop}
use borrow.Rule.Slice.PartMut.{put_mid}
use Rattle.devices.specs.Given.{anything, these}
use Rattle.devices.specs.Sources.{Source, file, sealed, MayGive, MayLack, Gives, held}
use Rattle.devices.specs.declared.contents.Unread.{Unread}
use Rattle.devices.proofs.Rooms.{put_front, take_add}
use Rattle.devices.proofs.Held.{take_self}
use Rattle.devices.proofs.Shown.{read_append}

-- what may be given from a place on, and then from where that ends, may be given together
pub given_on : (source : Source) (place : ℕ) (xs ys : List ℕ) → MayGive source place xs → MayGive source (place + length xs) ys
    → MayGive source place (xs ++ ys)
given_on (file anything) place xs ys a b = tt
given_on (file (these bytes)) place xs ys a b =
    let second : ys ≡ take (length ys) (drop (length xs) (drop place bytes)) =
    b ∙ ap (take (length ys)) (sym (drop-drop (length xs) place bytes)) in
    ap (λ l. l ++ ys) a ∙ ap (λ l. take (length xs) (drop place bytes) ++ l) second
    ∙ sym (take_add (length xs) (length ys) (drop place bytes))
    ∙ ap (λ k. take k (drop place bytes)) (sym (length-append xs ys))
given_on (sealed s) place xs ys a b = read_append s place xs ys a b

pub given_more : (source : Source) (offset done n k : ℕ) (room part : List ℕ) → done ≤ length room → n ≤ length part
    → MayGive source offset (take done room) → MayGive source (offset + done) (take n part)
    → MayGive source offset (take (done + n) (put_mid done k room part))
given_more source offset done n k room part d l a b =
    subst (MayGive source offset) (sym (put_front room part done n k d l))
    (given_on source offset (take done room) (take n part) a
    (subst (λ i. MayGive source (offset + i) (take n part)) (sym (length-take-le done room d)) b))

-- any source may give no bytes
pub gives_none : (source : Source) (place : ℕ) → MayGive source place []
gives_none (file anything) place = tt
gives_none (file (these bytes)) place = refl
gives_none (sealed s) place = record { each = λ k below. absurd (omega arith) }

-- bytes that are held lack none before their end
pub held_lacks : (xs : List ℕ) (end : ℕ) → end ≤ length xs → MayLack (held xs) end → ⊥
held_lacks xs end within (inl fails) = fails
held_lacks xs end within (inr past) = omega arith

pub reads_held : (xs room : List ℕ) (offset n : ℕ)
    → (take n room ≡ take n (drop offset xs)) × (n ≡ 0 → 0 < length room → length xs ≤ offset)
    → Gives {E = Unread} (held xs) offset (Ok n) room
reads_held xs room offset n r = (
  r.0 ∙ take_self n (drop offset xs) ∙ ap (λ l. take (length l) (drop offset xs)) (sym r.0),
  λ none some. (let past = r.1 none some in omega arith),
)
