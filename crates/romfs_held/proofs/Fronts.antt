-- A run of kept bytes is a front of the filled list (front_of); what is read from a front.
use Rattle.std.proofs.Common.{◌≡◌, ◌≢◌, ◌∙◌, sym, ap, ℕ, ◌+◌, ◌<◌, ◌≤◌, min, List, [], ◌∷◌, true, false, length, take, drop, get_or, Option, Some, None, IsSome, inl, inr, refl, arith, length-drop, length-take}
use Rattle.std.specs.Option.{option_map, is_some}
use Rattle.std.proofs.lemmas.Bool.{cases_lt, eqb-true, false≢true}
use Rattle.std.proofs.lemmas.List.{get_or-drop, get_or-take, get_or_past, ext_get_or, length-take-le}
use Rattle.std.proofs.lemmas.List.FromFn.{get_or-map-range_with_len, length-map-range_with_len}
use Rattle.memchr.specs.Find.{IsFirstByte, is_byte}
use Rattle.byteorder.specs.Endian.{big_number}
use Rattle.romfs_format.specs.Fields.{word, ended, name_field}
use Rattle.romfs_held.specs.Blocks.{byte_of, filled, IsRun, IsFront}
use Rattle.romfs_format.specs.Heads.{name_of}
use Rattle.romfs_held.proofs.NameBytes.{name_taken, name_within}
use Rattle.romfs_held.proofs.Fields.{big_same, word_same, ended_none, ended_at}

pub filled_long : (size : ℕ) (blocks bytes : List ℕ) → length (filled size blocks bytes) ≡ size
unfolding filled
filled_long size blocks bytes = length-map-range_with_len (byte_of blocks bytes) 0 size

pub filled_at : (size : ℕ) (blocks bytes : List ℕ) (i : ℕ) → i < size → get_or (filled size blocks bytes) i 0 ≡ byte_of blocks bytes i
unfolding filled
filled_at size blocks bytes i l = get_or-map-range_with_len (byte_of blocks bytes) 0 size i i 0 l (omega arith)

pub front_of : (size : ℕ) (blocks bytes : List ℕ) (at : ℕ) (xs : List ℕ) → IsRun blocks bytes at xs
    → IsFront (filled size blocks bytes) at 272 xs
front_of size blocks bytes at xs r = record {
  is = λ i l m. filled_at size blocks bytes (at + i) (let e = filled_long size blocks bytes in omega arith) ∙ r.is i l;
  stops = λ l. elim (cases_lt (at + length xs) size) [
    | inl m ↦ filled_at size blocks bytes (at + length xs) m ∙ r.stops l
    | inr m ↦ get_or_past (filled size blocks bytes) (at + length xs) 0 (let e = filled_long size blocks bytes in omega arith)
  ];
}

pub front_less : (a : List ℕ) (at : ℕ) (xs : List ℕ) → IsFront a at 272 xs → IsFront a at 256 xs
front_less a at xs f = record { is = f.is; stops = λ l. f.stops (omega arith) }

pub front_more : (a : List ℕ) (at : ℕ) (xs : List ℕ) → 16 ≤ length xs → IsFront a at 272 xs → IsFront a (at + 16) 256 (drop 16 xs)
front_more a at xs h f =
    let e = length-drop 16 xs in
    record {
      is = λ i l m.
          ap (λ x. get_or a x 0) (let g : at + 16 + i ≡ at + (16 + i) = omega arith in g)
          ∙ f.is (16 + i) (omega arith) (omega arith) ∙ sym (get_or-drop 16 xs i 0);
      stops = λ l.
          ap (λ x. get_or a x 0) (let g : at + 16 + length (drop 16 xs) ≡ at + length xs = omega arith in g)
          ∙ f.stops (omega arith);
    }

pub word_front : (a : List ℕ) (at reach : ℕ) (xs : List ℕ) → IsFront a at reach xs → (k : ℕ) → k + 4 ≤ length xs → at + k + 4 ≤ length a
    → word xs k ≡ word a (at + k)
word_front a at reach xs f k l m = word_same xs a k (at + k) (λ i n.
    sym (f.is (k + i) (omega arith) (omega arith)) ∙ ap (λ x. get_or a x 0) (let g : at + (k + i) ≡ at + k + i = omega arith in g))

-- a name of this length is as many of the bytes after its header
pub name_front : {reach : ℕ} (a : List ℕ) (h : ℕ) (xs : List ℕ) → IsFront a (h + 16) reach xs
    → (n : ℕ) → n ≡ length (name_of a h) → n ≤ length xs → h + 16 ≤ length a → take n xs ≡ name_of a h
name_front a h xs f n e l m =
    let w = name_within a h m in
    let d = length-drop (h + 16) a in
    let p = length-take-le n xs l in
    let q = length-take-le n (drop (h + 16) a) (omega arith) in
    ext_get_or 0 _ _ (omega arith) (λ i o.
    get_or-take n xs i 0 (omega arith) ∙ sym (f.is i (omega arith) (omega arith)) ∙ sym (get_or-drop (h + 16) a i 0)
    ∙ sym (get_or-take n (drop (h + 16) a) i 0 (omega arith)))
    ∙ ap (λ k. take k (drop (h + 16) a)) e ∙ name_taken a h

-- a word of the filled list, by bytes of a block
pub word_of_block : (size : ℕ) (blocks bytes : List ℕ) (at : ℕ) (xs : List ℕ)
    → ((i : ℕ) → i < length xs → byte_of blocks bytes (at + i) ≡ get_or xs i 0)
    → (k : ℕ) → k + 4 ≤ length xs → at + k + 4 ≤ size → word xs k ≡ word (filled size blocks bytes) (at + k)
word_of_block size blocks bytes at xs is k l m = word_same xs (filled size blocks bytes) k (at + k) (λ i n.
    sym (is (k + i) (omega arith)) ∙ ap (byte_of blocks bytes) (let g : at + (k + i) ≡ at + k + i = omega arith in g)
    ∙ sym (filled_at size blocks bytes (at + k + i) (omega arith)))

module _ (a near : List ℕ) (at room : ℕ) (size : length a ≡ at + room) (front : IsFront a at 256 near) where
  long : length (name_field a at) ≡ min 256 room
  unfolding name_field
  long = length-take 256 (drop at a) ∙ (let d = length-drop at a in ap (λ n. min 256 n) (omega arith))

  reads : (i : ℕ) → i < 256 → get_or (name_field a at) i 0 ≡ get_or a (at + i) 0
  unfolding name_field
  reads i l = get_or-take 256 (drop at a) i 0 l ∙ get_or-drop at a i 0

  same : (i : ℕ) → i < length near → i < room → i < 256 → get_or (name_field a at) i 0 ≡ get_or near i 0
  same i l m n = reads i n ∙ front.is i l (omega arith)

  text_ends : (k : ℕ) → k ≤ length near → k < room → k < 256 → ((j : ℕ) → j < k → get_or near j 0 ≢ 0)
      → get_or (name_field a at) k 0 ≡ 0 → Some (take k near) ≡ ended (name_field a at)
  text_ends k l m n h z =
      let inside : k < length (name_field a at) = (let e = long in omega arith) in
      let p = length-take-le k near l in
      let q = length-take-le k (name_field a at) (omega arith) in
      let e : take k near ≡ take k (name_field a at) = ext_get_or 0 _ _ (omega arith) (λ i o.
      get_or-take k near i 0 (omega arith) ∙ sym (same i (omega arith) (omega arith) (omega arith))
      ∙ sym (get_or-take k (name_field a at) i 0 (omega arith))) in
      ap (λ t. Some t) e
      ∙ sym (ended_at (name_field a at) k inside z (λ j o w. h j o (sym (same j (omega arith) (omega arith) (omega arith)) ∙ w)))

  module _ (field : List ℕ) (is : field ≡ take (min room 256) near) where
    field_long : length field ≡ min (min room 256) (length near)
    field_long = ap length is ∙ length-take (min room 256) near

    field_at : (i : ℕ) → i < length field → get_or field i 0 ≡ get_or near i 0
    field_at i l = ap (λ f. get_or f i 0) is ∙ get_or-take (min room 256) near i 0 (let e = field_long in omega arith)

    zero_test : (x : ℕ) → x ≡ 0 → is_byte 0 x ≡ true
    zero_test x e = rw e refl

    -- a zero byte that is found ends the name
    pub ends_found : (r : Option ℕ) → IsSome r → IsFirstByte (is_byte 0) field r → option_map (λ k. take k near) r ≡ ended (name_field a at)
    ends_found None s h = absurd (false≢true s)
    ends_found (Some k) s h =
        let e = field_long in
        let l : k < length field = h.0.high in
        let z : get_or near k 0 ≡ 0 = sym (field_at k l) ∙ eqb-true _ _ h.1 in
        text_ends k (omega arith) (omega arith) (omega arith)
        (λ j m w. h.0.before j (omega arith) m (zero_test _ (field_at j (omega arith) ∙ w)))
        (same k (omega arith) (omega arith) (omega arith) ∙ z)

    nonzero : IsFirstByte (is_byte 0) field None → (j : ℕ) → j < length field → get_or near j 0 ≢ 0
    nonzero h j l w = h j (omega arith) l (zero_test _ (field_at j l ∙ w))

    -- a field without one has no name
    pub ends_nowhere : (r : Option ℕ) → is_some r ≡ false → IsFirstByte (is_byte 0) field r → length field ≡ min room 256
        → ◌≡◌ {A = Option (List ℕ)} None (ended (name_field a at))
    ends_nowhere (Some k) s h e = absurd (false≢true (sym s))
    ends_nowhere None s h e = sym (ended_none (name_field a at) (λ k l w.
        let f = long in let g = field_long in
        nonzero h k (omega arith) (sym (same k (omega arith) (omega arith) (omega arith)) ∙ w)))

    -- if the front ends before, its end is that of the name
    pub ends_behind : (r : Option ℕ) → is_some r ≡ false → IsFirstByte (is_byte 0) field r → length field ≢ min room 256
        → Some (take (length field) near) ≡ ended (name_field a at)
    ends_behind (Some k) s h n = absurd (false≢true (sym s))
    ends_behind None s h n =
        let g = field_long in
        let m : length field ≡ length near = omega arith in
        text_ends (length field) (omega arith) (omega arith) (omega arith) (nonzero h)
        (reads (length field) (omega arith) ∙ ap (λ x. get_or a (at + x) 0) m ∙ front.stops (omega arith))

-- a word of the filled list, by a run, or by its four bytes
pub word_of_run : (size : ℕ) (blocks bytes : List ℕ) (at : ℕ) (xs : List ℕ)
    → ((i : ℕ) → i < length xs → byte_of blocks bytes (at + i) ≡ get_or xs i 0) → 4 ≤ length xs → at + 4 ≤ size
    → big_number 4 xs ≡ word (filled size blocks bytes) at
unfolding word
word_of_run size blocks bytes at xs is l m = big_same xs (drop at (filled size blocks bytes)) (λ i n.
    sym (is i (omega arith)) ∙ sym (filled_at size blocks bytes (at + i) (omega arith))
    ∙ sym (get_or-drop at (filled size blocks bytes) i 0))

pub word_of_bytes : (size : ℕ) (blocks bytes : List ℕ) (at : ℕ) → at + 4 ≤ size → (x y z w : ℕ)
    → x ≡ byte_of blocks bytes at → y ≡ byte_of blocks bytes (at + 1) → z ≡ byte_of blocks bytes (at + 2)
    → w ≡ byte_of blocks bytes (at + 3)
    → big_number 4 (x ∷ y ∷ z ∷ w ∷ []) ≡ word (filled size blocks bytes) at
unfolding word
word_of_bytes size blocks bytes at m x y z w e f g h =
    let a : List ℕ = filled size blocks bytes in
    let b : (i : ℕ) → i < 4 → get_or (drop at a) i 0 ≡ byte_of blocks bytes (at + i) =
    λ i l. get_or-drop at a i 0 ∙ filled_at size blocks bytes (at + i) (omega arith) in
    let p = b 0 (omega arith) in
    let q = b 1 (omega arith) in
    let r = b 2 (omega arith) in
    let s = b 3 (omega arith) in
    let t = ap (byte_of blocks bytes) (let u : at + 0 ≡ at = omega arith in u) in
    cc
