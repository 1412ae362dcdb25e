-- A header that was read is added as it is in the image, with its name (text_added) and its target,
-- which begins where the name's padding ends (head_end).
use Rattle.std.proofs.Common.{◌≡◌, ◌≢◌, ◌∙◌, sym, ap, subst, ℕ, ◌+◌, ◌-◌, ◌*◌, ◌/◌, ◌%◌, ◌<◌, ◌≤◌, min, inl, inr, List, length, take, get_or, Option, Some, None, refl, arith, length-take, length-take-le}
use Rattle.std.specs.Option.{unwrap_or}
use Rattle.std.proofs.lemmas.Bool.{cases_lt}
use Rattle.std.proofs.lemmas.List.{get_or-take}
use Rattle.romfs_format.specs.declared.head.Kind.TheVariants.{SymLink}
use Rattle.romfs_format.specs.declared.limits.TheConstants.{MAX_TARGET_SIZE}
use Rattle.romfs_format.specs.Fields.{word, name, size, kind_of, data_at, padded}
use Rattle.devices.specs.Sources.{Source, IfShown}
use Rattle.romfs_kept.specs.declared.pieces.Piece.{Piece}
use Rattle.romfs_kept.specs.Pieces.{HasBlock, HasRow}
use Rattle.romfs_kept.specs.Reads.{Extent, HasBytesAt, IsReadAt, IsEnded, IsUnended, IsEndIn, IsHeadAt, IsHeadRead, IsAdded, AreAdded}
use Rattle.romfs_kept.specs.Walk.{HasText, HasTarget, IsTargetAdded, HasAddedTarget, IsVisit, HasVisited}
use Rattle.romfs_held.proofs.Fields.{word_same}
use Rattle.romfs_kept.proofs.Names.{name_ends}

-- a row that has the bytes of xs
added : (xs : List ℕ) (old new : List Piece) (first count : ℕ) (bytes : List ℕ) → count ≤ length bytes / 16
    → HasBytesAt xs (16 * first) bytes → HasRow old first bytes count new → IsAdded xs first count old new
added xs old new first count bytes few h r = record {
  right = λ o. record {
    each = λ x c. elim (r.from x c) [
      | inl d ↦ o.each x d
      | inr w ↦ record {
        same = λ j l. w.same j l ∙ h.same (w.place * 16 + j) (let b = w.below in omega arith)
            ∙ ap (λ i. get_or xs i 0) (let e = w.is in let f : 16 * first + (w.place * 16 + j) ≡ 16 * x.block + j = omega arith in f);
      }
    ];
  };
  stays = r.stays;
  has = r.has;
}

pub row_added : {S : Type 0} (of : S → Source) (x : Extent S) (at first count : ℕ) (bytes : List ℕ) (old new : List Piece) → at ≡ 16 * first
    → count ≤ length bytes / 16 → IsReadAt of x at bytes → HasRow old first bytes count new → AreAdded of x first count old new
row_added of x at first count bytes old new e few h r = record {
  each = λ b v. added (take x.size b) old new first count bytes few (subst (λ n. HasBytesAt (take x.size b) n bytes) e (h.each b v)) r;
}

-- the front of a room in which the name ends, or that is as long as a header and a name can be
head_ended : (xs : List ℕ) (at count : ℕ) (room : List ℕ) → HasBytesAt xs at room → IsEnded room count → IsHeadAt xs at (take count room)
head_ended xs at count room h e =
    let long : length (take count room) ≡ count = length-take-le count room e.high in
    let low = e.low in
    let high = e.high in
    let s = e.stops in
    let s1 = s.1 in
    let s2 = s.2 in
    record {
      same = record { same = λ i l. get_or-take count room i 0 (omega arith) ∙ h.same i (omega arith) };
      low = omega arith;
      whole = ap (λ n. n % 16) long ∙ e.whole;
      runs = λ i l m z. e.runs i l (omega arith) (sym (get_or-take count room i 0 (omega arith)) ∙ z);
      stops = λ l. (s.0, (omega arith), (omega arith), get_or-take count room s.0 0 s.1 ∙ s.3);
    }

head_unended : (xs : List ℕ) (at count : ℕ) (room : List ℕ) → HasBytesAt xs at room → length room ≡ 272 → count ≡ 272 → IsUnended room
    → IsHeadAt xs at (take count room)
head_unended xs at count room h n c u =
    let long : length (take count room) ≡ count = length-take-le count room (omega arith) in
    record {
      same = record { same = λ i l. get_or-take count room i 0 (omega arith) ∙ h.same i (omega arith) };
      low = omega arith;
      whole = ap (λ k. k % 16) (long ∙ c);
      runs = λ i l m z. u.runs i l (omega arith) (sym (get_or-take count room i 0 (omega arith)) ∙ z);
      stops = λ l. absurd (omega arith);
    }

pub head_found : (s : Source) (size at count : ℕ) (room : List ℕ) → IfShown s (λ b. HasBytesAt (take size b) at room)
    → IsEnded room count → IfShown s (λ b. IsHeadAt (take size b) at (take count room))
head_found s size at count room r e = record { each = λ b v. head_ended (take size b) at count room (r.each b v) e }

pub head_all : {S : Type 0} (of : S → Source) (x : Extent S) (at : ℕ) (end : Option ℕ) (room : List ℕ) → IsReadAt of x at room
    → length room ≡ 272 → IsEndIn room end → IsHeadRead of x at (take (unwrap_or end 272) room)
head_all of x at None room r n e = record { each = λ b v. head_unended (take x.size b) at 272 room (r.each b v) n refl e }
head_all of x at (Some count) room r n e = record { each = λ b v. head_ended (take x.size b) at count room (r.each b v) e }

module _ (xs head : List ℕ) (at : ℕ) (h : IsHeadAt xs at head) where
  -- the first zero byte after the header is in the last block
  read : (i : ℕ) → i < length head → get_or xs (at + i) 0 ≡ get_or head i 0
  read i l = sym (h.same.same i l)

  module _ (k : ℕ) (few : k < 256) (zero_at : get_or xs (at + 16 + k) 0 ≡ 0)
      (before : (j : ℕ) → j < k → get_or xs (at + 16 + j) 0 ≢ 0) where
    above : 16 + k < length head
    above = elim (cases_lt (16 + k) (length head)) [
      | inl l ↦ l
      | inr l ↦ absurd (
          let low = h.low in
          let s = h.stops (omega arith) in
          let s1 = s.1 in
          let s2 = s.2 in
          before (s.0 - 16) (omega arith)
          (ap (λ x. get_or xs x 0) (let g : at + 16 + (s.0 - 16) ≡ at + s.0 = omega arith in g) ∙ read s.0 s.1 ∙ s.3))
    ]

    below : length head ≤ 32 + k
    below = elim (cases_lt (32 + k) (length head)) [
      | inl l ↦ absurd (h.runs (16 + k) (omega arith) (omega arith)
          (sym (read (16 + k) (omega arith)) ∙ ap (λ x. get_or xs x 0) (let g : at + (16 + k) ≡ at + 16 + k = omega arith in g) ∙ zero_at))
      | inr l ↦ l
    ]

    pub head_len : length head ≡ 16 + (k + 1 + 15) / 16 * 16
    head_len = (let a = above in let b = below in let w = h.whole in omega arith)

  -- the target begins after what was read
  pub head_end : (n : List ℕ) → name xs at ≡ Some n → data_at at n ≡ at + length head
  head_end n e =
      let t = name_ends xs n (at + 16) e in
      let g = head_len (length n) t.few t.zero_at t.before in
      omega arith

  word_at : (k : ℕ) → k + 4 ≤ 16 → word head k ≡ word xs (at + k)
  word_at k l = word_same head xs k (at + k) (λ i m.
      h.same.same (k + i) (let w = h.low in omega arith) ∙ ap (λ x. get_or xs x 0) (let g : at + (k + i) ≡ at + k + i = omega arith in g))

  module _ (old mid new : List Piece) (first third : ℕ) (whole : at % 16 ≡ 0) (row : IsAdded xs (at / 16) (length head / 16) old mid)
      (target : IsTargetAdded xs (at + length head) first third mid new) where
    text_added : HasText new xs (at + 16)
    text_added = record { each = λ i l m n. here i l m n }
      where
        here : (i : ℕ) → i < 256 → at + 16 + i < length xs → ((j : ℕ) → j < i / 16 * 16 → get_or xs (at + 16 + j) 0 ≢ 0)
            → HasBlock new ((at + 16 + i) / 16)
        here i l m n =
            let w = h.whole in
            let low = h.low in
            let q : (16 + i) / 16 < length head / 16 = elim (cases_lt (16 + i) (length head)) [
              | inl k ↦ (let f : (16 + i) / 16 < length head / 16 = omega arith in f)
              | inr k ↦ absurd (
                  let s = h.stops (omega arith) in
                  let s1 = s.1 in
                  let s2 = s.2 in
                  n (s.0 - 16) (omega arith)
                  (ap (λ x. get_or xs x 0) (let g : at + 16 + (s.0 - 16) ≡ at + s.0 = omega arith in g) ∙ read s.0 s.1 ∙ s.3))
            ] in
            target.stays ((at + 16 + i) / 16) (subst (λ b. HasBlock mid b)
            (let g : at / 16 + (16 + i) / 16 ≡ (at + 16 + i) / 16 = omega arith in g)
            (row.has ((16 + i) / 16) q))

    target_added : first ≡ word xs at → third ≡ size xs at → HasTarget new xs at
    target_added e f = record {
      each = λ k s n t i l m.
          let g = head_end n t in
          subst (λ p. HasBlock new ((p + i) / 16)) (sym g)
          (target.has (ap (λ w. kind_of (w % 8)) e ∙ k) (omega arith) i (omega arith) (omega arith));
    }

    pub visited : (second : ℕ) → first ≡ word head 0 → second ≡ word head 4 → third ≡ word head 8 → IsVisit xs at old new first second
    visited second e f g =
        let one : first ≡ word xs at = e ∙ word_at 0 (omega arith) ∙ ap (word xs) (let z : at + 0 ≡ at = omega arith in z) in record {
          right = λ o. target.right (row.right o);
          stays = λ b k. target.stays b (row.stays b k);
          head = target.stays (at / 16) (subst (λ b. HasBlock mid b) (let z : at / 16 + 0 ≡ at / 16 = omega arith in z)
              (row.has 0 (let low = h.low in omega arith)));
          text = text_added;
          target = target_added one (g ∙ word_at 8 (omega arith));
          first_is = one;
          second_is = f ∙ word_at 4 (omega arith);
        }

pub has_visited : {S : Type 0} (of : S → Source) (x : Extent S) (at : ℕ) (head : List ℕ) (old mid new : List Piece) (first second third : ℕ)
    → at % 16 ≡ 0 → IsHeadRead of x at head → HasRow old (at / 16) head (length head / 16) mid → first ≡ word head 0 → second ≡ word head 4
    → third ≡ word head 8 → HasAddedTarget of x (at + length head) first third mid new → HasVisited of x at old new first second
has_visited of x at head old mid new first second third w h r e f g t = record {
  each = λ b v. visited (take x.size b) head at (h.each b v) old mid new first third w
      (added (take x.size b) old mid (at / 16) (length head / 16) head (omega arith)
      (subst (λ n. HasBytesAt (take x.size b) n head) (let z : at ≡ 16 * (at / 16) = omega arith in z) (h.each b v).same) r)
      (t.each b v) second e f g;
}

-- nothing was added if the target has no bytes
pub target_none : {S : Type 0} (of : S → Source) (x : Extent S) (from count first third : ℕ) (old : List Piece) → count ≡ 0
    → (kind_of (first % 8) ≡ SymLink → third ≤ MAX_TARGET_SIZE → count ≡ min third (x.size - from))
    → HasAddedTarget of x from first third old old
target_none of x from count first third old z e = record {
  each = λ b v. record {
    right = λ r. r;
    stays = λ q h. h;
    has = λ k l i m n. absurd (let f = e k l in let g = length-take x.size b in omega arith);
  };
}

-- a target whose blocks were added
pub target_row : {S : Type 0} (of : S → Source) (x : Extent S) (from count len first third : ℕ) (old new : List Piece) → from % 16 ≡ 0
    → AreAdded of x (from / 16) (len / 16) old new → len ≡ padded count
    → (kind_of (first % 8) ≡ SymLink → third ≤ MAX_TARGET_SIZE → count ≡ min third (x.size - from))
    → HasAddedTarget of x from first third old new
target_row of x from count len first third old new w a p e = record {
  each = λ b v. record {
    right = (a.each b v).right;
    stays = (a.each b v).stays;
    has = λ k l i m n.
        let f = e k l in
        let g = length-take x.size b in
        subst (λ q. HasBlock new q) (let z : from / 16 + i / 16 ≡ (from + i) / 16 = omega arith in z)
        ((a.each b v).has (i / 16) (omega arith));
  };
}
