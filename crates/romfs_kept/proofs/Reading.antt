-- What a room has of the window (room_read). A part of what the source has (within_less), as long as what is shown of it (within_shown,
-- room_shown), lacks bytes only if a read may fail (fails_within).
use Rattle.std.proofs.Common.{◌≡◌, ◌∙◌, sym, ap, ℕ, ◌+◌, ◌-◌, ◌<◌, ◌≤◌, min, List, ◌++◌, length, take, drop, get_or, replicate, inl, inr, arith, length-append, length-drop, length-take-le}
use Rattle.std.proofs.lemmas.Bool.{cases_lt}
use Rattle.std.proofs.lemmas.List.{get_or-drop, get_or-take, get_or_append_left, get_or-append_right, get_or_past, get_or-replicate, length-replicate}
use Rattle.devices.specs.Given.{anything, these}
use Rattle.devices.specs.Sources.{Source, file, sealed, Shows, MayFail, MayLack}
use Rattle.romfs_kept.specs.Reads.{Extent, AreWithin, IsHeld, IsReadAt}
use Rattle.romfs_kept.specs.Tails.{IsRoom}

pub within_less : (s : Source) (n m : ℕ) → AreWithin s n → m ≤ n → AreWithin s m
within_less s n m w l = record { size = w.size; is = w.is; fits = (let f = w.fits in omega arith) }

pub within_shown : (s : Source) (n : ℕ) → AreWithin s n → (b : List ℕ) → Shows s b → n ≤ length b
within_shown s n w b v = (let f = w.fits in let e = w.is.shown b v in omega arith)

pub within_room : (s : Source) (place room count : ℕ) → IsRoom s place room → count ≤ room → 0 < room → AreWithin s (place + count)
within_room s place room count r l some =
    record { size = r.size; is = r.is; fits = (let e = r.left in omega arith) }

pub room_shown : (s : Source) (place room : ℕ) → IsRoom s place room → (b : List ℕ) → Shows s b → room ≡ length b - place
room_shown s place room r b v = r.left ∙ ap (λ n. n - place) (r.is.shown b v)

pub room_behind : (s : Source) (place room more : ℕ) → IsRoom s place room → IsRoom s (place + more) (room - more)
room_behind s place room more r = record { size = r.size; is = r.is; left = (let e = r.left in omega arith) }

pub fails_within : (s : Source) (end : ℕ) → AreWithin s end → MayLack s end → MayFail s
fails_within s end w (inl fails) = fails
fails_within (file anything) end w (inr ends) = tt
fails_within (file (these b)) end w (inr ends) = absurd (let f = w.fits in let e = w.is.has in omega arith)
fails_within (sealed s) end w (inr ends) = absurd (let f = w.fits in let e = w.is.has in omega arith)

pub all_zero : (n i : ℕ) → ◌≡◌ {A = ℕ} (get_or (replicate n 0) i 0) 0
all_zero n i = elim (cases_lt i n) [
  | inl l ↦ get_or-replicate n i 0 0 l
  | inr l ↦ get_or_past (replicate n 0) i 0 (let e : length (replicate {A = ℕ} n 0) ≡ n = length-replicate n 0 in omega arith)
]

-- a room of zeros of which the front is filled from the window
pub room_read : {S : Type 0} (of : S → Source) (x : Extent S) (at start count n : ℕ) (bytes zeros room : List ℕ)
    → AreWithin (of x.source) x.size → IsHeld (of x.source) start bytes → start ≤ at → at + count ≤ start + length bytes → at < x.size
    → count ≡ min (length zeros) (x.size - at) → zeros ≡ replicate n 0
    → room ≡ take count (drop (at - start) bytes) ++ drop count zeros → IsReadAt of x at room
room_read of x at start count n bytes zeros room w0 h0 l m o c z e = record {
  each = λ b v. record {
    same = λ i k. ap (λ r. get_or r i 0) e ∙ here b v i (let g = ap length e in let f = all_long in omega arith);
  };
}
  where
    part_long : length (take count (drop (at - start) bytes)) ≡ count
    part_long = (let d = length-drop (at - start) bytes in length-take-le count (drop (at - start) bytes) (omega arith))

    all_long : length (take count (drop (at - start) bytes) ++ drop count zeros) ≡ length zeros
    all_long = (let a = length-append (take count (drop (at - start) bytes)) (drop count zeros) in
        let p = part_long in let d = length-drop count zeros in omega arith)

    here : (b : List ℕ) → Shows (of x.source) b → (i : ℕ) → i < length zeros
        → get_or (take count (drop (at - start) bytes) ++ drop count zeros) i 0 ≡ get_or (take x.size b) (at + i) 0
    here b v i k = elim (cases_lt i count) [
      | inl q ↦ get_or_append_left (take count (drop (at - start) bytes)) (drop count zeros) 0 i (let p = part_long in omega arith)
          ∙ get_or-take count (drop (at - start) bytes) i 0 q ∙ get_or-drop (at - start) bytes i 0
          ∙ (h0.each b v).same (at - start + i) (omega arith)
          ∙ ap (λ x. get_or b x 0) (let f : start + (at - start + i) ≡ at + i = omega arith in f)
          ∙ sym (get_or-take x.size b (at + i) 0 (omega arith))
      | inr q ↦ get_or-append_right (take count (drop (at - start) bytes)) (drop count zeros) count i 0 part_long q
          ∙ get_or-drop count zeros (i - count) 0
          ∙ ap (λ r. get_or r (count + (i - count)) 0) z ∙ all_zero n (count + (i - count))
          ∙ sym (get_or_past (take x.size b) (at + i) 0
          (let t = length-take-le x.size b (within_shown (of x.source) x.size w0 b v) in omega arith))
    ]
