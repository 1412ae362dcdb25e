-- What is put at the front of a room: bytes of an image from a place on (front_copied), as those of a
-- run are (run_copied), or one that is 0 if there is no run (zero_copied).
use Rattle.std.proofs.Common.{◌≡◌, ◌∙◌, sym, ap, ℕ, ◌+◌, ◌<◌, ◌≤◌, List, [], ◌∷◌, ◌++◌, length, take, drop, get_or, slice_set, refl, arith, length-append, length-drop, length-take-le}
use Rattle.std.proofs.lemmas.List.{take_at, get_or-drop, get_or-take, ext_get_or}
use Rattle.romfs_held.specs.Blocks.{byte_of, filled, IsRun, CopiesSome}
use Rattle.romfs_held.proofs.Fronts.{filled_at, filled_long}
use Rattle.romfs_held.proofs.Sums.{run_part}

pub front_copied : (a : List ℕ) (at n : ℕ) (room part : List ℕ) → 0 < n → n ≤ length room → at + n ≤ length a
    → part ≡ take n (drop at a) → CopiesSome a at n room (part ++ drop n room)
front_copied a at n room part some less within is =
    let d = length-drop at a in
    let long : length part ≡ n = ap length is ∙ length-take-le n (drop at a) (omega arith) in
    let e = length-append part (drop n room) in
    let f = length-drop n room in
    record {
      some = some;
      within = omega arith;
      long = omega arith;
      same = take_at part (drop n room) n long ∙ is;
    }

pub run_copied : (size : ℕ) (blocks bytes : List ℕ) (at n : ℕ) (room near part : List ℕ) → IsRun blocks bytes at near → 0 < n
    → n ≤ length room → n ≤ length near → at + n ≤ size → part ≡ take n near
    → CopiesSome (filled size blocks bytes) at n room (part ++ drop n room)
run_copied size blocks bytes at n room near part r some less m within is =
    front_copied (filled size blocks bytes) at n room part some less (let f = filled_long size blocks bytes in omega arith)
    (is ∙ run_part size blocks bytes at n near r m within)

-- the first byte of a room that is set
first_set : (room : List ℕ) (b : ℕ) → 0 < length room → take 1 (slice_set room 0 b) ≡ b ∷ []
first_set [] b l = absurd (omega arith)
first_set (x ∷ room) b l = refl

set_long : (room : List ℕ) (b : ℕ) → length (slice_set room 0 b) ≡ length room
set_long [] b = refl
set_long (x ∷ room) b = refl

pub zero_copied : (size : ℕ) (blocks bytes : List ℕ) (at : ℕ) (room near : List ℕ) → IsRun blocks bytes at near → length near ≡ 0
    → at < size → 0 < length room → CopiesSome (filled size blocks bytes) at 1 room (slice_set room 0 0)
zero_copied size blocks bytes at room near r none within some =
    let f = filled_long size blocks bytes in
    let d = length-drop at (filled size blocks bytes) in
    let t = length-take-le 1 (drop at (filled size blocks bytes)) (omega arith) in
    let z : byte_of blocks bytes at ≡ 0 =
    ap (byte_of blocks bytes) (let e : at ≡ at + length near = omega arith in e) ∙ r.stops (omega arith) in
    let is : 0 ∷ [] ≡ take 1 (drop at (filled size blocks bytes)) = ext_get_or 0 (0 ∷ []) _ (sym t) (λ i l.
    let i0 : i ≡ 0 = omega arith in
    ap (λ k. get_or (0 ∷ []) k 0) i0 ∙ sym z ∙ sym (filled_at size blocks bytes at within)
    ∙ ap (λ k. get_or (filled size blocks bytes) k 0) (let e : at ≡ at + i = omega arith in e)
    ∙ sym (get_or-drop at (filled size blocks bytes) i 0) ∙ sym (get_or-take 1 (drop at (filled size blocks bytes)) i 0 (omega arith))) in
    record {
      some = omega arith;
      within = (let e = set_long room 0 in omega arith);
      long = set_long room 0;
      same = first_set room 0 some ∙ is;
    }
