-- What is read from a trailer: whether one begins at a place (not_there, letters_there, begins_there), how
-- much of it is kept (end_..), and of its second part (part_..), and what (tail_read), or why it is not
-- (tail_far, not_read). Put after what was gathered it is gathered, too (with_none, with_tail).
use Rattle.std.proofs.Common.{◌≡◌, ◌∙◌, sym, ap, subst, ℕ, ◌+◌, ◌-◌, ◌/◌, ◌^◌, ◌<◌, ◌≤◌, ◌⊎◌, inl, inr, min, if◌then◌else◌, true, false, Bool, List, length, take, drop, Some, None, refl, arith, length-drop, length-take, length-take-le, ◌&&◌}
use Rattle.std.specs.Prelude.{nat_eq, nat_le, nat_lt, codes}
use Rattle.std.specs.List.{starts_with}
use Rattle.std.specs.Cmp.Lexicographic.{pointwise}
use Rattle.std.proofs.lemmas.Bool.{cases_lt, le-ltb, lt-ltb, true≢false}
use Rattle.std.proofs.lemmas.List.{get_or-drop, get_or-take, ext_get_or, take-take, drop-drop}
use Rattle.std.proofs.lemmas.Bool.Decides.{nat_tests}
use Rattle.romfs_format.specs.Fields.{word, padded}
use Rattle.romfs_format.specs.Trailer.{row_count, row_start, trailer_end, part}
use Rattle.devices.specs.Sources.{Source, IfShown, IsSizeOf}
use Rattle.romfs_held.specs.Blocks.{IsFollowed}
use Rattle.romfs_held.proofs.Fields.{word_same}
use Rattle.romfs_held.proofs.Views.{short_front}
use Rattle.romfs_kept.specs.Footprint.{reach}
use Rattle.romfs_kept.specs.declared.fault.GatherFault.{GatherFault}
use Rattle.romfs_kept.specs.Gathered.{begins_trailer, kept_part, kept_end, kept_tail, IsCauseWithTrailer, IsFarAt, IsGathered, IsGatheredOf, IsGatheredWithTrailer, IsGatheredWithTrailerOf}
use Rattle.romfs_kept.specs.Reads.{HasBytesAt, IsHeld}
use Rattle.romfs_kept.specs.Tails.{BeginsTrailer, BeginsWith, IsPartEnd, IsRoom, IsTail, IsTailCause, IsTailEnd, end_of}
use Rattle.romfs_kept.proofs.Reading.{room_shown}

-- the letters are not at a place
pub and_false : (x y : Bool) → y ≡ false → (x && y) ≡ false
and_false true y e = e
and_false false y e = refl

left_false : (x y : Bool) → x ≡ false → (x && y) ≡ false
left_false true y e = absurd (true≢false e)
left_false false y e = refl

left_true : (x y : Bool) → x ≡ true → y ≡ (x && y)
left_true true y e = refl
left_true false y e = absurd (true≢false (sym e))

pub not_there : (source : Source) (place : ℕ) → place ≡ 2 ^ 32 → BeginsTrailer source place false
not_there source place e = record {
  each = λ b v.
      sym (left_false (nat_lt place (2 ^ 32)) _ (le-ltb place (2 ^ 32) (omega arith)));
}

pub too_short : (source : Source) (place room : ℕ) (letters : List ℕ) → IsRoom source place room → room < 8 → length letters ≡ 8
    → BeginsWith source place letters false
too_short source place room letters r0 l e = record {
  each = λ b v.
      let r : room ≡ length b - place = room_shown source place room r0 b v in
      let d = length-drop place b in
      sym (short_front (drop place b) letters (omega arith));
}

-- bytes that were read from a place on are the first ones there
read_front : (b : List ℕ) (place n : ℕ) (tail : List ℕ) → HasBytesAt b place tail → length tail ≡ min n (length (drop place b))
    → tail ≡ take n (drop place b)
read_front b place n tail h e =
    let t = length-take n (drop place b) in
    ext_get_or 0 tail (take n (drop place b)) (omega arith) (λ i l.
    h.same i l ∙ sym (get_or-take n (drop place b) i 0 (omega arith) ∙ get_or-drop place b i 0))

pub letters_there : (source : Source) (place room : ℕ) (letters tail : List ℕ) (r : Bool) → IsRoom source place room → 8 ≤ room
    → length letters ≡ 8 → IsHeld source place tail → length tail ≡ 8 → r ≡ starts_with nat_eq tail letters
    → BeginsWith source place letters r
letters_there source place room letters tail r i0 m e h0 l f = record {
  each = λ b v.
      let i : room ≡ length b - place = room_shown source place room i0 b v in
      let h = h0.each b v in
      let d = length-drop place b in
      let t : tail ≡ take 8 (drop place b) = read_front b place 8 tail h (omega arith) in
      f ∙ ap (λ x. pointwise nat_eq letters (take (length letters) x)) t
      ∙ ap (λ x. pointwise nat_eq letters x) (take-take (length letters) 8 (drop place b) (omega arith));
}

pub begins_there : (source : Source) (place : ℕ) (r : Bool) → place < 2 ^ 32 → BeginsWith source place (codes "-attr01-") r
    → BeginsTrailer source place r
begins_there source place r l e0 = record {
  each = λ b v.
      let e = e0.each b v in
      e ∙ left_true (nat_lt place (2 ^ 32)) _ (lt-ltb place (2 ^ 32) l);
}

-- the word after the letters
word_read : (b : List ℕ) (place : ℕ) (tail : List ℕ) → HasBytesAt b place tail → 12 ≤ length tail → word tail 8 ≡ word (drop place b) 8
word_read b place tail h l = word_same tail (drop place b) 8 8 (λ i m.
    h.same (8 + i) (omega arith) ∙ sym (get_or-drop place b (8 + i) 0))

-- how much is kept of a part: nothing of none, all of one in full, otherwise the letters
pub part_none : (source : Source) (place : ℕ) → BeginsWith source place (codes "-attr02-") false → IsPartEnd source place 0
part_none source place e0 = record {
  each = λ b v.
      let e = e0.each b v in
      let f : starts_with nat_eq (drop place b) (codes "-attr02-") ≡ false = sym e in rw f refl;
}

pub part_whole : (source : Source) (place room size : ℕ) (tail : List ℕ) → BeginsWith source place (codes "-attr02-") true
    → IsRoom source place room → IsHeld source place tail → length tail ≡ 12 → size ≡ word tail 8 → 16 ≤ size → size ≤ room
    → IsPartEnd source place size
part_whole source place room size tail e0 r0 h0 l s m n = record {
  each = λ b v.
      let r : room ≡ length b - place = room_shown source place room r0 b v in
      let e = e0.each b v in
      let h = h0.each b v in
      let f : starts_with nat_eq (drop place b) (codes "-attr02-") ≡ true = sym e in
      let d = length-drop place b in
      let w = word_read b place tail h (omega arith) in
      rw f (grind (arith, nat_tests));
}

pub part_cut : (source : Source) (place room size : ℕ) (tail : List ℕ) → BeginsWith source place (codes "-attr02-") true
    → IsRoom source place room → IsHeld source place tail → length tail ≡ 12 → size ≡ word tail 8 → (size < 16) ⊎ (room < size)
    → IsPartEnd source place 8
part_cut source place room size tail e0 r0 h0 l s m = record {
  each = λ b v.
      let r : room ≡ length b - place = room_shown source place room r0 b v in
      let e = e0.each b v in
      let h = h0.each b v in
      let f : starts_with nat_eq (drop place b) (codes "-attr02-") ≡ true = sym e in
      let d = length-drop place b in
      let w = word_read b place tail h (omega arith) in
      rw f (elim m [ inl n ↦ grind (arith, nat_tests) | inr n ↦ grind (arith, nat_tests) ]);
}

pub part_short : (source : Source) (place room : ℕ) → BeginsWith source place (codes "-attr02-") true → IsRoom source place room
    → room < 12 → IsPartEnd source place 8
part_short source place room e0 r0 l = record {
  each = λ b v.
      let r : room ≡ length b - place = room_shown source place room r0 b v in
      let e = e0.each b v in
      let f : starts_with nat_eq (drop place b) (codes "-attr02-") ≡ true = sym e in
      let d = length-drop place b in
      rw f (elim (cases_lt (word (drop place b) 8) 16) [ inl n ↦ grind (arith, nat_tests) | inr n ↦ grind (arith, nat_tests) ]);
}

part_at : (b : List ℕ) (place : ℕ) → drop (place + trailer_end (drop place b)) b ≡ part (drop place b)
unfolding part
part_at b place = sym (drop-drop (trailer_end (drop place b)) place b)

-- what a choice of an end says of the end that is kept
by_none : (c : Bool) (n k : ℕ) → None ≡ (if c then Some n else None) → 16 ≡ (if c then n + k else 16)
by_none true n k e = absurd (cc)
by_none false n k e = refl

by_some : (c : Bool) (n k end more : ℕ) → Some end ≡ (if c then Some n else None) → (end ≡ n → more ≡ k)
    → end + more ≡ (if c then n + k else 16)
by_some true n k end more e f = (let s : end ≡ n = cc in let t = f s in omega arith)
by_some false n k end more e f = absurd (cc)

-- how much is kept of a trailer
pub end_short : (source : Source) (place room full : ℕ) → IsRoom source place room → room < 16 → IsTailEnd source place full 16
end_short source place room full r0 l = record {
  each = λ b v.
      let r : room ≡ length b - place = room_shown source place room r0 b v in
      let d = length-drop place b in grind (arith, nat_tests);
}

pub end_none : (source : Source) (place room full rows : ℕ) (tail : List ℕ) → IsRoom source place room → IsHeld source place tail
    → length tail ≡ 16 → rows ≡ word tail 8 → None ≡ end_of rows room full → IsTailEnd source place full 16
end_none source place room full rows tail r0 h0 l e f = record {
  each = λ b v.
      let r : room ≡ length b - place = room_shown source place room r0 b v in
      let h = h0.each b v in
      let d = length-drop place b in
      let w : rows ≡ row_count (drop place b) = e ∙ word_read b place tail h (omega arith) in
      let m : room ≡ length (drop place b) = r ∙ sym d in
      let g : None ≡ end_of (row_count (drop place b)) (length (drop place b)) full = rw (w, m) at f in
      by_none (nat_le (row_start (row_count (drop place b))) (length (drop place b))
      && nat_le (row_count (drop place b)) (padded full / 16))
      (trailer_end (drop place b)) (kept_part (part (drop place b))) g;
}

pub end_some : (source : Source) (place room full rows end more : ℕ) (tail : List ℕ) → IsRoom source place room → IsHeld source place tail
    → length tail ≡ 16 → rows ≡ word tail 8 → Some end ≡ end_of rows room full → IsPartEnd source (place + end) more
    → IsTailEnd source place full (end + more)
end_some source place room full rows end more tail r0 h0 l e f p0 = record {
  each = λ b v.
      let r : room ≡ length b - place = room_shown source place room r0 b v in
      let h = h0.each b v in
      let p = p0.each b v in
      let d = length-drop place b in
      let w : rows ≡ row_count (drop place b) = e ∙ word_read b place tail h (omega arith) in
      let m : room ≡ length (drop place b) = r ∙ sym d in
      let g : Some end ≡ end_of (row_count (drop place b)) (length (drop place b)) full = rw (w, m) at f in
      by_some (nat_le (row_start (row_count (drop place b))) (length (drop place b))
      && nat_le (row_count (drop place b)) (padded full / 16))
      (trailer_end (drop place b)) (kept_part (part (drop place b))) end more g
      (λ s. p ∙ ap kept_part (ap (λ k. drop (place + k) b) s ∙ part_at b place));
}

pub tail_read : (source : Source) (place room full end : ℕ) (tail : List ℕ) → place ≡ padded full → IsRoom source place room
    → BeginsTrailer source place true → IsTailEnd source place full end → IsHeld source place tail
    → length tail ≡ min room end → IsTail source full tail
tail_read source place room full end tail p r0 s0 e0 h0 l = record {
  each = λ b v.
      let r : room ≡ length b - place = room_shown source place room r0 b v in
      let s = s0.each b v in
      let e = e0.each b v in
      let h = h0.each b v in
      let d = length-drop place b in
      let t : tail ≡ take end (drop place b) = read_front b place end tail h (omega arith) in
      let all : tail ≡ kept_tail full (drop place b) = t ∙ ap (λ n. take n (drop place b)) e in
      (sym (ap (begins_trailer b) p) ∙ sym s, all ∙ ap (λ n. kept_tail full (drop n b)) p);
}

-- what would be kept ends too far
pub tail_far : (source : Source) (place room full end : ℕ) → place ≡ padded full → IsRoom source place room
    → BeginsTrailer source place true → IsTailEnd source place full end → 2 ^ 32 ≤ place + min room end → IfShown source (IsFarAt full)
tail_far source place room full end p r0 s0 e0 l = record {
  each = λ b v.
      let r : room ≡ length b - place = room_shown source place room r0 b v in
      let s = s0.each b v in
      let e = e0.each b v in
      let d = length-drop place b in
      let t = length-take end (drop place b) in
      let k = ap (λ n. length (take n (drop place b))) e in
      let far : 2 ^ 32 ≤ place + length (kept_tail full (drop place b)) = omega arith in
      record {
        begins = sym (ap (begins_trailer b) p) ∙ sym s;
        far = subst (λ n. 2 ^ 32 ≤ n + length (kept_tail full (drop n b))) p far;
      };
}

-- why the trailer was not read is why nothing was gathered
pub not_read : (source : Source) (front : List ℕ) (full : ℕ) (fault : GatherFault) → IsGathered source front → full ≡ length front
    → IsTailCause source full fault → IsCauseWithTrailer source fault
not_read source front full fault g e (inl cause) = inl cause
not_read source front full fault g e (inr (is, far)) =
    inr (is, record { each = λ b v. subst (λ n. IsFarAt n b) (e ∙ (g.each b v).long) (far.each b v) })

-- how many bytes follow a place
pub room_is : (source : Source) (size place room : ℕ) → IsSizeOf source size → room ≡ size - place → IsRoom source place room
room_is source size place room s e = record { size = size; is = s; left = e }

-- the kept tail after what was gathered
module _ (b front tail a : List ℕ) (g : IsGatheredOf b front) (begins : begins_trailer b (padded (reach b)) ≡ true)
    (is : tail ≡ kept_tail (reach b) (drop (padded (reach b)) b)) (f : IsFollowed front (padded (reach b)) tail a) where
  at : ℕ
  at = padded (reach b)

  room : 8 ≤ length (drop at b)
  unfolding at
  room = elim (cases_lt (length (drop at b)) 8) [
    | inl l ↦ absurd (true≢false (sym begins
        ∙ and_false (nat_lt at (2 ^ 32)) _ (short_front (drop at b) (codes "-attr01-") (omega arith))))
    | inr l ↦ l
  ]

  tail_short : length tail ≤ length (drop at b)
  unfolding at
  tail_short =
      let n : ℕ = kept_end (reach b) (drop at b) in
      let t = length-take n (drop at b) in
      let e = ap length is in
      omega arith

  behind : reach b ≤ at
  unfolding at
  behind = omega arith

  long : length a ≡ at + length tail
  unfolding at
  long = f.long

  front_is : take (reach b) a ≡ front
  front_is =
      let l = long in
      let m = behind in
      let t = length-take-le (reach b) a (omega arith) in
      let h = g.long in
      ext_get_or 0 (take (reach b) a) front (omega arith) (λ i o. get_or-take (reach b) a i 0 (omega arith) ∙ f.same i (omega arith))

  tail_is : drop at a ≡ tail
  unfolding at
  tail_is =
      let l = long in
      let d = length-drop at a in
      ext_get_or 0 (drop at a) tail (omega arith) (λ i o. get_or-drop at a i 0 ∙ f.back i (omega arith))

  followed : IsGatheredWithTrailerOf b a
  unfolding at
  followed = record {
    short = (let l = long in let r = room in let t = tail_short in let d = length-drop at b in omega arith);
    front = subst (λ xs. IsGatheredOf b xs) (sym front_is) g;
    none = λ e. absurd (true≢false (sym begins ∙ e));
    tail = λ e. tail_is ∙ is;
  }

pub with_tail : (source : Source) (front tail a : List ℕ) (full at : ℕ) → IsGathered source front → full ≡ length front
    → IsTail source full tail → at ≡ padded full → IsFollowed front at tail a → IsGatheredWithTrailer source a
with_tail source front tail a full at g0 e t0 p f = record {
  each = λ b v.
      let g = g0.each b v in
      let t = t0.each b v in
      let r : full ≡ reach b = e ∙ g.long in
      let i = subst (λ n. (begins_trailer b (padded n) ≡ true) × (tail ≡ kept_tail n (drop (padded n) b))) r t in
      followed b front tail a g i.0 i.1 (subst (λ n. IsFollowed front (padded n) tail a) r (subst (λ n. IsFollowed front n tail a) p f));
}
